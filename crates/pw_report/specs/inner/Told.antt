-- What a book tells of a month, as functions of numbers, and its amounts in whole cents. It serves `src/bills.rt`,
-- `src/days.rt`, `src/readings.rt` and `src/why.rt`.
-- (Definitions of this project.)
use Rattle.std.specs.Prelude.{◌≡◌, ℕ, ◌*◌, List, pos}
use Rattle.pw_tariff.specs.declared.ids.BandId.{BandId}
use Rattle.pw_tariff.specs.declared.ids.PeriodId.{PeriodId}
use Rattle.pw_tariff.specs.declared.ids.Direction.TheVariants.{Import, Export}
use Rattle.pw_tariff.specs.Office.{OfficeFile, office_of, price_at}
use Rattle.pw_model.specs.Energy.{over_bands, over_periods}
use Rattle.pw_months.specs.Bills.{Bill}
use Rattle.pw_bills.specs.declared.billed.Bill.{Bill as Told}
use Rattle.pw_bills.specs.declared.energies.Energies.{Energies}
use Rattle.pw_bills.specs.declared.reasons.WhyPiece.{WhyPiece}
use Rattle.pw_bills.specs.Billed.{energy_billed}
use Rattle.pw_bills.specs.Energies.{energy_told}
use Rattle.pw_bills.specs.Why.{row_told}
use Rattle.pw_bills.specs.declared.payments.TopUpRow.{TopUpRow}
use Rattle.pw_model.specs.declared.records.ReadingRow.{ReadingRow}
use Rattle.pw_report.specs.declared.bills.Amounts.{Amounts}
use Rattle.pw_report.specs.declared.bills.Sheet.{Sheet}
use Rattle.pw_report.specs.declared.readings.Shown.{Shown}
use Rattle.pw_report.specs.declared.why.Payer.{Payer}
use Rattle.pw_report.specs.Amounts.{cents_below}
use Rattle.pw_report.specs.Bills.{rounding, whole_cents}
use Rattle.pw_report.specs.Exports.{reading_line}
use Rattle.pw_report.specs.DaysAndWhy.{DayEnergies, payment_line, why_line}

abbrev pub period : ℕ → PeriodId
period p = record { 0 = p }

abbrev pub band : ℕ → BandId
band b = record { 0 = b }

-- ---- a bill
-- with what its energies cost
abbrev pub bill_told : OfficeFile → Told → Bill
bill_told file t = record {
  begin = t.begin;
  topped_up = t.topped_up;
  energy = λ p b d. energy_billed t (period p) (band b) d;
  cost = λ p b d. price_at file p b d * energy_billed t (period p) (band b) d;
  whole_cost = λ d. over_periods (office_of file) (λ p. over_bands (office_of file) (λ b. price_at file p b d * energy_billed t (period p) (band b) d));
  end = t.end;
}

abbrev pub bill_of_sheet : Sheet → Bill
bill_of_sheet s = bill_told s.office.now s.bill.now

pub record AreAmounts (bill : Bill) (amounts : Amounts) : Type 0 where
  pub begin_is : amounts.begin ≡ cents_below bill.begin
  pub topped_up_is : amounts.topped_up ≡ pos bill.topped_up
  pub imported_is : amounts.imported ≡ whole_cents (bill.whole_cost Import)
  pub exported_is : amounts.exported ≡ whole_cents (bill.whole_cost Export)
  pub end_is : amounts.end ≡ cents_below bill.end
  pub rounding_is : amounts.rounding ≡ rounding bill

-- ---- days
abbrev pub day_energies : Energies → DayEnergies
day_energies e i p b d = energy_told e i (period p) (band b) d

-- ---- why
abbrev pub piece_line : OfficeFile → WhyPiece → List ℕ
piece_line file w = why_line file (row_told (office_of file) w)

abbrev pub payer_line : Payer → TopUpRow → List ℕ
payer_line payer row = payment_line payer.office.now payer.account row

-- ---- readings
abbrev pub shown_line : Shown → ReadingRow → List ℕ
shown_line shown row = reading_line shown.meter.now shown.register row
