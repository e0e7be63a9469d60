-- How large totals and balances can be.
-- (Definitions of this project.)
use Rattle.std.specs.Prelude.{ℕ, ◌*◌, ◌≤◌, List, length, FitsSigned}
use Rattle.std.specs.Int.{w128}
use Rattle.pw_obis.specs.declared.energy.TheConstants.{LARGEST_WATT_HOURS}
use Rattle.pw_tariff.specs.declared.ids.Direction.{Direction}
use Rattle.pw_model.specs.declared.records.Entry.{Entry}
use Rattle.pw_model.specs.Counting.{contents_at}
use Rattle.pw_tariff.specs.Office.{OfficeRules}
use Rattle.pw_model.specs.Office.{AllOfOffice, IsOffice, most_cents, most_records}
use Rattle.pw_model.specs.Energy.{Asked, energy_where}
use Rattle.pw_model.specs.Payments.{topped_up, balance}

-- an energy is at most the largest value of a reading for each record, whichever seconds are asked for;
-- what is topped up is at most the largest top-up for each record
pub record AreBounded (office : OfficeRules) (s : List Entry) : Type 0 where
  pub energies : (d : Direction) (asked : Asked) → energy_where office (contents_at s) d asked ≤ length s * LARGEST_WATT_HOURS
  pub topped : (a : ℕ) → topped_up s a ≤ length s * most_cents

abbrev pub TotalsAreBounded : Type 0
TotalsAreBounded = (office : OfficeRules) (s : List Entry) → IsOffice office → AllOfOffice office s → AreBounded office s

-- a balance of at most 10,000,000 records fits a signed number of 128 bits
abbrev pub BalancesFit : Type 0
BalancesFit = (office : OfficeRules) (s : List Entry) (a : ℕ) → IsOffice office → AllOfOffice office s → length s ≤ most_records → FitsSigned w128 (balance office s a)
