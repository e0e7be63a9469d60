use Rattle.std.proofs.Common.{refl, ap, sym, ◌∙◌, inl, inr}
use Rattle.pw_model.specs.Counting.{standing, standing_among, contents_at, contents_among, joined}
use Rattle.pw_model.proofs.Places.{at-told, take-all}
use Rattle.pw_model.proofs.Found.{contents-next, contents-pass}
use Rattle.pw_model.proofs.plain.search.contents_at.Goals as goal
use Rattle.pw_model.proofs.plain.search.contents_at.Goals.{then-is_same_key+then-not-is_withdrawn, else-is_same_key, else-is_same_key-via-then-is_same_key+else-not-is_withdrawn, else-is_same_key-via-else-is_same_key}

pub loop-entry-init : goal.loop-entry-init
unfolding contents_among
loop-entry-init c = refl

pub loop-entry-preserved : goal.loop-entry-preserved
loop-entry-preserved c =
    let at = at-told c.args.entries.now c.loop-entry.entry-index c.entry-item.result c.loop-entry-test.true c.entry-item.is in
    elim c.if-is_same_key.branch [
      | then-is_same_key+then-not-is_withdrawn w ↦ (
          let n = contents-next c.args.entries.now c.loop-entry.entry-index c.entry-item.result c.args.key.now at (sym c.is_same_key.ensures ∙ w.if-is_same_key.true) (sym w.is_withdrawn.ensures ∙ w.if-not-is_withdrawn.true) in
          w.contents-is ∙ w.with_one_more-contents.ensures ∙ ap (joined c.entry-item.result.content) c.loop-entry.invariant ∙ sym n)
      | else-is_same_key w ↦ (
          let n = contents-pass c.args.entries.now c.loop-entry.entry-index c.entry-item.result c.args.key.now at (elim w.else-is_same_key.branch [
            | else-is_same_key-via-then-is_same_key+else-not-is_withdrawn v ↦ inr (sym v.is_withdrawn.ensures ∙ v.if-not-is_withdrawn.false)
            | else-is_same_key-via-else-is_same_key v ↦ inl (sym c.is_same_key.ensures ∙ v.if-is_same_key.false)
          ]) in
          w.contents-is ∙ c.loop-entry.invariant ∙ sym n)
    ]

pub returns : goal.returns
unfolding contents_at standing
returns c =
    c.loop-entry.invariant
    ∙ ap (λ some. contents_among (standing_among c.args.entries.now some) c.args.key.now) (take-all c.args.entries.now c.loop-entry.entry-index c.loop-entry-test.false)
