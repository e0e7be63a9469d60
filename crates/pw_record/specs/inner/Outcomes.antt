-- What comes of the frames of a body. It serves `src/laws.rt`.
use Rattle.std.specs.Prelude.{◌≡◌, ℕ, ◌⊎◌, List}
use Rattle.pw_tariff.specs.Office.{OfficeFile}
use Rattle.pw_model.specs.declared.records.Entry.{Entry}
use Rattle.pw_record.specs.declared.fault.Cause.{Cause}
use Rattle.pw_record.specs.declared.fault.Cause.TheVariants.{Memory}
use Rattle.pw_record.specs.declared.origin.Source.{Source}
use Rattle.pw_record.specs.Frames.{BodyGives, BodyStops}

-- the body gives entries, or is refused for a cause that isn't want of memory
abbrev pub HasBodyOutcome : OfficeFile → Source → List ℕ → Type 0
HasBodyOutcome file source body =
    ((entries : List Entry) × BodyGives file source body entries)
    ⊎ ((part : ℕ) × (cause : Cause) × BodyStops file source body part cause × (cause ≡ Memory → ⊥))
