use Rattle.std.proofs.Common.{◌≡◌, ℕ, ◌-◌, sym, subst, ◌∙◌, arith}
use Rattle.std.proofs.lemmas.Bool.{true≢false}
use Rattle.pw_model.specs.inner.Search.{IsKeyBehind}
use Rattle.pw_model.proofs.Places.{alone-told, not-alone}
use Rattle.pw_model.proofs.plain.alone.stands_alone.Goals as goal
use Rattle.pw_model.proofs.plain.alone.stands_alone.Goals.{else-index-gt0-via-then-index-gt0+else-has_key_behind, else-index-gt0-via-else-index-gt0}

pub returns-then-has_key_behind : goal.returns-then-has_key_behind
returns-then-has_key_behind c =
    not-alone c.args.in_order.now (c.args.index - 1) c.args.index c.requires.rising c.requires.standing (omega (arith, c.if-index-gt0.true)) (c.has_key_behind.ensures.0 c.if-has_key_behind.true)

pub returns : goal.returns
returns c =
    alone-told c.args.in_order.now c.args.index c.has_key_behind-2.result c.requires.rising c.requires.standing
    (λ p n k. elim c.else-index-gt0.branch [
      | else-index-gt0-via-then-index-gt0+else-has_key_behind w ↦ (
          let q : p ≡ c.args.index - 1 = omega (arith, n) in
          let P : ℕ → Type 0 = IsKeyBehind c.args.in_order.now in
          true≢false (sym (w.has_key_behind.ensures.1 (subst P q k)) ∙ w.if-has_key_behind.false))
      | else-index-gt0-via-else-index-gt0 w ↦ absurd (omega (arith, n, w.if-index-gt0.false))
    ])
    c.has_key_behind-2.ensures
