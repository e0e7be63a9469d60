-- What a bill tells, and how much is read for it.
-- (Definitions of this project.)
use Rattle.std.specs.Prelude.{◌≡◌, ℕ, ◌+◌, ◌*◌, ◌≤◌, List}
use Rattle.pw_time.specs.declared.instant.TheConstants.{END_SECOND}
use Rattle.pw_tariff.specs.declared.ids.AccountId.{AccountId}
use Rattle.pw_tariff.specs.declared.ids.BandId.{BandId}
use Rattle.pw_tariff.specs.declared.ids.Direction.{Direction}
use Rattle.pw_tariff.specs.declared.ids.PeriodId.{PeriodId}
use Rattle.pw_tariff.specs.Office.{OfficeRules}
use Rattle.pw_model.specs.declared.records.Entry.{Entry}
use Rattle.pw_model.specs.Shelf.{ShelfContent}
use Rattle.pw_months.specs.Bills.{bill_of}
use Rattle.pw_bills.specs.declared.billed.Bill.{Bill}
use Rattle.pw_bills.specs.Energies.{energy_told}
use Rattle.pw_bills.specs.Payments.{AreEnoughForTopUps}
use Rattle.pw_bills.specs.Reads.{AreEnoughFor, all_meters}

-- its energies are those of its first stretch of time
abbrev pub energy_billed : Bill → PeriodId → BandId → Direction → ℕ
energy_billed told = energy_told told.energies 0

-- it is the account's bill
pub record TellsBill (office : OfficeRules) (s : List Entry) (a : AccountId) (from to : ℕ) (told : Bill) : Type 0 where
  pub begin : told.begin ≡ (bill_of office s a.0 from to).begin
  pub topped_up : told.topped_up ≡ (bill_of office s a.0 from to).topped_up
  pub energy : (p : PeriodId) (b : BandId) (d : Direction) →
      energy_billed told p b d ≡ (bill_of office s a.0 from to).energy p.0 b.0 d
  pub end : told.end ≡ (bill_of office s a.0 from to).end

-- so many calls and rows are enough: those of a balance, a total for each period, band and direction, and of what is
-- topped up; and from the interval's begin on, those of the top-ups and of the meters
pub record AreEnoughForBill (office : OfficeRules) (c : ShelfContent) (a : AccountId) (from most : ℕ) : Type 0 where
  pub top_ups : ℕ
  pub few : AreEnoughForTopUps c.records a from END_SECOND top_ups
  pub each : ℕ → ℕ
  pub few_each : AreEnoughFor office c a.0 from END_SECOND each
  pub enough : 2 * (2 * (office.periods * office.bands) + 1) + top_ups + all_meters office each ≤ most
