-- What follows of a verdict, case by case.
use Rattle.std.proofs.Common.{◌≡◌, ◌⊎◌, None, Some, refl, inl, inr}
use Rattle.pw_found.specs.Verdicts.{refused}
use Rattle.pw_found.specs.declared.files.Found.{Found}
use Rattle.pw_found.specs.declared.files.Found.TheVariants as found
use Rattle.pw_found.specs.declared.verdict.Purpose.{Purpose}
use Rattle.pw_found.specs.declared.verdict.Purpose.TheVariants as purpose
use Rattle.pw_found.specs.declared.verdict.Refusal.TheVariants.{Unopened}
use Rattle.pw_found.specs.declared.cause.Cause.TheVariants.{LogAlone}

pub opened : (it : Found) (given : Purpose) → refused it given ≡ None → ((it ≡ found.Nothing) × (given ≡ purpose.Take)) ⊎ (it ≡ found.File)
opened found.Nothing purpose.Take e = inl (refl, refl)
opened found.Nothing purpose.Ask e = absurd (cc)
opened found.LogAlone given e = absurd (cc)
opened found.Cut given e = absurd (cc)
opened found.File given e = inr refl

pub alone : (it : Found) (given : Purpose) → refused it given ≡ Some (Unopened LogAlone) → it ≡ found.LogAlone
alone found.Nothing purpose.Take e = absurd (cc)
alone found.Nothing purpose.Ask e = absurd (cc)
alone found.LogAlone given e = refl
alone found.Cut given e = absurd (cc)
alone found.File given e = absurd (cc)
