use Rattle.std.proofs.Common.{arith, sym, subst, ◌∙◌, ◌≤◌, All, length, inl, inr}
use Rattle.std.proofs.lemmas.Bool.{cases_Bool, true≢false}
use Rattle.std.proofs.lemmas.List.{take_all}
use Rattle.std.proofs.lemmas.List.Elements.{All-get_or, All-more}
use Rattle.pw_moving.specs.Adopting.{IsMet}
use Rattle.pw_commands.proofs.weighing.put_all_unmet.Goals as goal
use Rattle.pw_commands.proofs.weighing.put_all_unmet.Goals.{then-not-is_met+in_ok-put_unmet, else-not-is_met}

pub loop-word-preserved : goal.loop-word-preserved
loop-word-preserved c =
    let words = c.args.words.now in
    let there = c.loop-word-test.true in
    elim c.if-not-is_met.branch [
      | then-not-is_met+in_ok-put_unmet w ↦ (
        λ t. absurd (true≢false (sym t ∙ w.all_met-is)),
        λ _ all. true≢false (sym (c.is_met.ensures.1 (All-get_or (IsMet (record { old = c.args.old.now; new = c.args.new.now })) words c.loop-word.word-index _ there all)) ∙ w.if-not-is_met.true),
      )
      | else-not-is_met w ↦ (
        λ t. All-more (IsMet (record { old = c.args.old.now; new = c.args.new.now })) words c.loop-word.word-index _ there (c.loop-word.invariant.0 (sym w.all_met-is ∙ t)) (c.is_met.ensures.0 w.if-not-is_met.false),
        λ f. c.loop-word.invariant.1 (sym w.all_met-is ∙ f),
      )
    ]

pub returns : goal.returns
returns c =
    let words = c.args.words.now in
    let whole : length words ≤ c.loop-word.word-index = omega (arith, c.loop-word-test.false) in (
      λ t. subst (λ ws. All (IsMet (record { old = c.args.old.now; new = c.args.new.now })) ws) (take_all c.loop-word.word-index words whole) (c.loop-word.invariant.0 t),
      λ all. elim (cases_Bool c.loop-word.all_met) [ inl t ↦ t | inr f ↦ absurd (c.loop-word.invariant.1 f all) ],
    )
