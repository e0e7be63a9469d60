-- Totals that are changed within an upload. It serves `src/moving.rt` and `src/settling.rt`.
-- (Definitions of this project.)
use Rattle.std.specs.Prelude.{◌≡◌, ℕ, ◌+◌, ◌*◌, ◌<◌, ◌≤◌, ◌⊎◌, Option, Some, None}
use Rattle.pw_obis.specs.declared.energy.TheConstants.{LARGEST_WATT_HOURS}
use Rattle.pw_tariff.specs.declared.ids.AccountId.{AccountId}
use Rattle.pw_tariff.specs.declared.ids.BandId.{BandId}
use Rattle.pw_tariff.specs.declared.ids.PeriodId.{PeriodId}
use Rattle.pw_tariff.specs.declared.ids.Direction.{Direction}
use Rattle.pw_tariff.specs.declared.ids.Direction.TheVariants.{Import, Export}
use Rattle.pw_model.specs.declared.records.TotalKey.{TotalKey}
use Rattle.pw_model.specs.declared.records.TotalKey.TheVariants.{Energy}
use Rattle.pw_model.specs.Office.{most_records}
use Rattle.pw_model.specs.Shelf.{ShelfContent}

-- the greatest amount of a total
abbrev pub most_total : ℕ
most_total = most_records * LARGEST_WATT_HOURS

-- these totals gain and lose such amounts, where the outcome is an amount of a total, and nothing else is changed
pub record MovesTotals (these : TotalKey → Type 0) (more less : TotalKey → ℕ) (old new : ShelfContent) : Type 0 where
  pub records : new.records ≡ old.records
  pub point : new.point ≡ old.point
  pub start : new.start ≡ old.start
  pub here : (k : TotalKey) → these k → (n : ℕ) → old.total k + more k ≡ n + less k → n ≤ most_total → new.total k ≡ n
  pub elsewhere : (k : TotalKey) → (these k → ⊥) → new.total k ≡ old.total k

-- ---- which totals
-- the energies of an owner in a direction, in so many periods and bands
abbrev pub InDirection : Option AccountId → Direction → ℕ → ℕ → TotalKey → Type 0
InDirection o d periods bands k = (p : PeriodId) × (b : BandId) × (p.0 < periods) × (b.0 < bands) × (k ≡ Energy o p b d)

-- in both directions
abbrev pub OfOwner : ℕ → ℕ → Option AccountId → TotalKey → Type 0
OfOwner periods bands o k = InDirection o Import periods bands k ⊎ InDirection o Export periods bands k

-- of nobody, and of the accounts before one
abbrev pub OfOwners : ℕ → ℕ → ℕ → TotalKey → Type 0
OfOwners periods bands accounts k = OfOwner periods bands None k ⊎ ((a : AccountId) × (a.0 < accounts) × OfOwner periods bands (Some a) k)
