-- What cells, registers, meters and top-ups give to each total. It serves `src/changes.rt`, `src/energies.rt` and
-- `src/payments.rt`.
-- (Definitions of this project.)
use Rattle.std.specs.Prelude.{ℕ, cond, Option, List}
use Rattle.std.specs.List.{sum_by}
use Rattle.pw_obis.specs.declared.reference.Register.{Register}
use Rattle.pw_tariff.specs.declared.ids.AccountId.{AccountId}
use Rattle.pw_tariff.specs.declared.ids.Direction.{Direction}
use Rattle.pw_tariff.specs.declared.cells.Cell.{Cell}
use Rattle.pw_tariff.specs.Cells.{energy_in}
use Rattle.pw_tariff.specs.Office.{OfficeRules}
use Rattle.pw_model.specs.declared.records.Contents.TheVariants.{One}
use Rattle.pw_model.specs.declared.records.Entry.{Entry}
use Rattle.pw_model.specs.declared.records.TotalKey.{TotalKey}
use Rattle.pw_model.specs.declared.records.TotalKey.TheVariants.{Energy, TopUps}
use Rattle.pw_model.specs.Same.{same_direction, direction_of, entry_order}
use Rattle.pw_model.specs.Counting.{Member, Counts, contents_at}
use Rattle.pw_model.specs.Energy.{share_of, meter_share, of_class, energy_in_period}
use Rattle.pw_model.specs.Lists.{IsInOrder}
use Rattle.pw_model.specs.Office.{AllOfOffice}
use Rattle.pw_model.specs.Payments.{cents_for}

-- to energies by owner, period, band and direction, and nothing to top-ups
abbrev pub to_energies : (Option AccountId → ℕ → ℕ → Direction → ℕ) → TotalKey → ℕ
to_energies f (Energy o p b d) = f o p.0 b.0 d
to_energies f (TopUps a) = 0

-- to top-ups by account, and nothing to energies
abbrev pub to_payments : (ℕ → ℕ) → TotalKey → ℕ
to_payments f (Energy o p b d) = 0
to_payments f (TopUps a) = f a.0

-- n in this direction alone
abbrev pub in_way : Direction → Direction → ℕ → ℕ
in_way d e n = cond (same_direction d e) n 0

-- what cells of a direction give to a total
abbrev pub cells_for : Direction → List Cell → TotalKey → ℕ
cells_for d cells (Energy o p b e) = cond (same_direction d e) (energy_in cells o p.0 b.0) 0
cells_for d cells (TopUps a) = 0

-- a register of a meter, of a set of records
abbrev pub register_given : OfficeRules → List Entry → ℕ → Register → TotalKey → ℕ
register_given office s m r = to_energies (λ o p b e. in_way (direction_of r) e (share_of office (contents_at s) (of_class office o p b) m r))

-- some registers of a meter
abbrev pub registers_given : OfficeRules → List Entry → ℕ → List Register → TotalKey → ℕ
registers_given office s m rs k = sum_by (λ r. register_given office s m r k) rs

-- a meter
abbrev pub meter_given : OfficeRules → List Entry → ℕ → TotalKey → ℕ
meter_given office s m = to_energies (λ o p b e. meter_share office (contents_at s) e (of_class office o p b) m)

-- all meters
abbrev pub energies_given : OfficeRules → List Entry → TotalKey → ℕ
energies_given office s = to_energies (λ o p b e. energy_in_period office s o p b e)

-- a top-up
abbrev pub payment_given : Entry → TotalKey → ℕ
payment_given e = to_payments (λ a. cents_for a (One e.content))

-- top-ups
abbrev pub payments_given : List Entry → TotalKey → ℕ
payments_given records = to_payments (λ a. sum_by (λ e. cents_for a (One e.content)) records)

-- records in order, of the office, each of which counts among them
pub record AreCounted (office : OfficeRules) (records : List Entry) : Type 0 where
  pub rising : IsInOrder entry_order records
  pub counting : (e : Entry) → Member e records → Counts records e
  pub of_office : AllOfOffice office records
