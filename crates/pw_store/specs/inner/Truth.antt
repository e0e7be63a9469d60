-- Whether points, starts and totals that were read are those of records. It serves `src/sums.rt`.
-- (Definitions of this project.)
use Rattle.std.specs.Prelude.{◌≡◌, ℕ, List, ◌++◌, filter}
use Rattle.pw_tariff.specs.Office.{OfficeRules}
use Rattle.pw_model.specs.declared.records.Entry.{Entry}
use Rattle.pw_model.specs.declared.records.TotalKey.{TotalKey}
use Rattle.pw_parts.specs.declared.parts.Parts.{Parts}
use Rattle.pw_parts.specs.Parts.{IsPartsOf}
use Rattle.pw_schema.specs.Judges.{is_above_zero}
use Rattle.pw_store.specs.inner.Sums.{Listed}

-- the parts of records are these points, starts and totals
pub record AreThese (parts : Parts) (ps ss : List Entry) (ts : List (TotalKey × ℕ)) : Type 0 where
  pub points : parts.points.items ≡ ps
  pub starts : parts.starts.items ≡ ss
  pub totals : parts.totals.items ≡ ts

-- what was read: totals of 0 are left out, and energies stand before top-ups
abbrev pub AreRead : Parts → Listed → Type 0
AreRead parts sums =
    AreThese parts sums.points sums.starts (filter is_above_zero (sums.energies ++ sums.payments))

-- the parts of the records were read
abbrev pub HaveParts : OfficeRules → List Entry → Listed → Type 0
HaveParts office s sums = (parts : Parts) × IsPartsOf office s parts × AreRead parts sums

-- others were read
abbrev pub HaveOtherParts : OfficeRules → List Entry → Listed → Type 0
HaveOtherParts office s sums = (parts : Parts) × IsPartsOf office s parts × (AreRead parts sums → ⊥)
