use Rattle.std.proofs.Common.{sym, ◌∙◌, ap, Some, inl, inr, ◌≡◌}
use Rattle.pw_found.specs.declared.verdict.Refusal.TheVariants.{Unopened}
use Rattle.pw_found.specs.declared.cause.Cause.TheVariants.{LogAlone}
use Rattle.pw_found.proofs.Verdicts.{opened, alone}
use Rattle.pw_found.proofs.verdict.admit.Goals as goal

pub returns-in-None-clause-kept : goal.returns-in-None-clause-kept
returns-in-None-clause-kept g c clean none =
    let it = opened _ _ (sym c.refused.ensures ∙ c.in-None.is) in
    elim it [
      | inl made ↦ (made.1, c.in_ok-look.ensures.nothing clean made.0)
      | inr file ↦ absurd (c.in_ok-look.ensures.file clean file none)
    ]

pub returns-in-Some-clause-alone : goal.returns-in-Some-clause-alone
returns-in-Some-clause-alone g c is clean =
    let same : c.in-Some.refusal ≡ Unopened LogAlone = cc in
    c.in_ok-look.ensures.alone clean (alone _ _ (sym c.refused.ensures ∙ c.in-Some.is ∙ ap Some same))
