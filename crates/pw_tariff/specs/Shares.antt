-- How the difference between two readings is shared out over owners, periods and bands.
-- (Definitions of this project.)
use Rattle.std.specs.Prelude.{◌≡◌, ◌==◌, ◌&&◌, ℕ, ◌-◌, Option, List, Bool}
use Rattle.pw_flow.specs.Energy.{cell}
use Rattle.pw_tariff.specs.declared.ids.AccountId.{AccountId}
use Rattle.pw_tariff.specs.declared.cells.Cell.{Cell}
use Rattle.pw_tariff.specs.declared.spread.Span.{Span}
use Rattle.pw_tariff.specs.Owners.{owner_by_starts, same_owner}
use Rattle.pw_tariff.specs.Office.{OfficeFile, period_at, band_at}
use Rattle.pw_tariff.specs.Cells.{AreInOrder, AreAboveZero, energy_in, energy_of_all}

-- the seconds of an owner, a period and a band
abbrev pub class_seconds : OfficeFile → List (ℕ × Option AccountId) → Option AccountId → ℕ → ℕ → ℕ → Bool
class_seconds office owners owner period band t =
    same_owner (owner_by_starts owners t) owner && ((period_at office t == period) && (band_at office t == band))

-- the share of an owner, a period and a band: the flows of their seconds, added up
abbrev pub share : OfficeFile → List (ℕ × Option AccountId) → Span → Option AccountId → ℕ → ℕ → ℕ
share office owners span owner period band =
    cell (class_seconds office owners owner period band) (span.from, span.low) (span.to, span.high)

-- the cells are the shares that are above zero, each once, nobody first, then by account, then by period, then by band
pub record AreShares (office : OfficeFile) (owners : List (ℕ × Option AccountId)) (span : Span) (cells : List Cell) : Type 0 where
  pub shares : (owner : Option AccountId) (period band : ℕ) → energy_in cells owner period band ≡ share office owners span owner period band
  pub above_zero : AreAboveZero cells
  pub in_order : AreInOrder cells
  pub whole : energy_of_all cells ≡ span.high - span.low
