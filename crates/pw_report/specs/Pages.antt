-- What each page says of a set of records.
-- (Definitions of this project.)
use Rattle.std.specs.Prelude.{◌≡◌, ℕ, ◌-◌, ◌<◌, Some, List, length, slice_index}
use Rattle.pw_obis.specs.declared.reference.Register.{Register}
use Rattle.pw_tariff.specs.declared.ids.AccountId.{AccountId}
use Rattle.pw_tariff.specs.Office.{OfficeFile, office_of, period_at}
use Rattle.pw_model.specs.declared.records.Entry.{Entry}
use Rattle.pw_model.specs.declared.records.Fall.{Fall}
use Rattle.pw_model.specs.declared.records.Dispute.{Dispute}
use Rattle.pw_model.specs.declared.records.ReadingRow.{ReadingRow}
use Rattle.pw_model.specs.declared.records.Key.{Key}
use Rattle.pw_model.specs.Counting.{contents_at}
use Rattle.pw_model.specs.Kinds.{IsAssignment, IsTopUp, IsWithdrawal, ListsHeld}
use Rattle.pw_model.specs.Lists.{AreDisputes, AreFalls, AreReadings, record_count}
use Rattle.pw_months.specs.Between.{energy_between}
use Rattle.pw_months.specs.Bills.{bill_of}
use Rattle.pw_months.specs.Why.{AreWhyRows, WhyRow}
use Rattle.pw_bills.specs.declared.payments.TopUpRow.{TopUpRow}
use Rattle.pw_bills.specs.declared.readings.LastReading.{LastReading}
use Rattle.pw_bills.specs.Payments.{AreTopUpRows}
use Rattle.pw_bills.specs.ReadUpTo.{AreLastReadings}
use Rattle.pw_bills.specs.Stretches.{end_of}
use Rattle.pw_record.specs.declared.row.RowKind.{RowKind}
use Rattle.pw_record.specs.declared.row.RowKind.TheVariants.{Assignment, TopUp, Withdrawal}
use Rattle.pw_report.specs.declared.months.Month.{Month as LocalMonth}
use Rattle.pw_report.specs.declared.page.MonthPage.{MonthPage}
use Rattle.pw_report.specs.declared.page.MonthPage.TheVariants.{Bill, Days, Why}
use Rattle.pw_report.specs.declared.page.Page.{Page}
use Rattle.pw_report.specs.declared.page.Page.TheVariants.{Statement, Month, MeterReadings, Table}
use Rattle.pw_report.specs.declared.page.Table.TheVariants.{Accounts, Falls, Disputes, Readings, Energies, Assignments, TopUps, Withdrawals}
use Rattle.pw_report.specs.Bills.{bill_text}
use Rattle.pw_report.specs.DaysAndWhy.{days_text, why_text}
use Rattle.pw_report.specs.Exports.{energies_text, one_meter_text, readings_text, records_text}
use Rattle.pw_report.specs.Months.{AreDays, IsSpan, IsThere}
use Rattle.pw_report.specs.Tables.{accounts_text, disputes_text, falls_text, statement_text}

-- the page is one of the office's
abbrev pub IsPageOf : OfficeFile → Page → Type 0
IsPageOf file (Statement a) = a.0 < length file.accounts
IsPageOf file (Month what a m) = (a.0 < length file.accounts) × IsThere m
IsPageOf file (MeterReadings m) = m.0 < length file.meters
IsPageOf file (Table table) = Unit {0}

-- the text of the falls, of the disputes, of the readings, of those of one meter, that a set of records has
abbrev pub IsFallsText : OfficeFile → List Entry → List ℕ → Type 0
IsFallsText file s text = (falls : List Fall) × AreFalls s falls × (text ≡ falls_text file falls)

abbrev pub IsDisputesText : OfficeFile → List Entry → List ℕ → Type 0
IsDisputesText file s text = (disputes : List Dispute) × AreDisputes s disputes × (text ≡ disputes_text file disputes)

abbrev pub IsReadingsText : OfficeFile → List Entry → List ℕ → Type 0
IsReadingsText file s text =
    (rows : ℕ → Register → List ReadingRow) × ((m : ℕ) (r : Register) → AreReadings s m r (rows m r)) × (text ≡ readings_text file rows)

abbrev pub IsOneMeterText : OfficeFile → List Entry → ℕ → List ℕ → Type 0
IsOneMeterText file s m text = (rows : Register → List ReadingRow) × ((r : Register) → AreReadings s m r (rows r)) × (text ≡ one_meter_text file m rows)

-- the text of the bill of an account for a month, with each period that has seconds of it, how far its meters are read, and
-- how many records there are
abbrev pub IsBillText : OfficeFile → List Entry → AccountId → LocalMonth → List ℕ → Type 0
IsBillText file s a m text =
    (from : ℕ) × (until : ℕ) × (read : List LastReading) × IsSpan m from until
    × AreLastReadings (office_of file) s a from until read
    × (text ≡ bill_text file a.0 m (period_at file from) (period_at file (until - 1)) (bill_of (office_of file) s a.0 from until) read (record_count s))

-- the text of its days: what the account uses in the seconds of each
abbrev pub IsDaysText : OfficeFile → List Entry → AccountId → LocalMonth → List ℕ → Type 0
IsDaysText file s a m text =
    (begins : List ℕ) × (end : ℕ) × AreDays m begins end
    × (text ≡ days_text file m (λ i p b d. energy_between (office_of file) s (Some a) p b d (slice_index begins i) (end_of begins end i)) (length begins))

-- the text of why: the rows that tell why the bill is what it is, and the top-ups of the month
abbrev pub IsWhyText : OfficeFile → List Entry → AccountId → LocalMonth → List ℕ → Type 0
IsWhyText file s a m text =
    (from : ℕ) × (until : ℕ) × (rows : List WhyRow) × (payments : List TopUpRow) × IsSpan m from until
    × AreWhyRows (office_of file) (contents_at s) a.0 from until rows × AreTopUpRows s a from until payments
    × (text ≡ why_text file a rows payments)

abbrev pub IsMonthAnswer : MonthPage → OfficeFile → List Entry → AccountId → LocalMonth → List ℕ → Type 0
IsMonthAnswer Bill file s a m text = IsBillText file s a m text
IsMonthAnswer Days file s a m text = IsDaysText file s a m text
IsMonthAnswer Why file s a m text = IsWhyText file s a m text

-- the key of a record that a row of the kind gives
abbrev pub IsOfRow : RowKind → Key → Type 0
IsOfRow Assignment k = IsAssignment k
IsOfRow TopUp k = IsTopUp k
IsOfRow Withdrawal k = IsWithdrawal k

-- the text of all records held that rows of the kind give
abbrev pub IsRecordsText : RowKind → OfficeFile → List Entry → List ℕ → Type 0
IsRecordsText kind file s text = (records : List Entry) × ListsHeld (IsOfRow kind) s records × (text ≡ records_text file kind records)

-- the text of a page
abbrev pub IsAnswer : Page → OfficeFile → List Entry → List ℕ → Type 0
IsAnswer (Statement a) file s text = text ≡ statement_text file s a.0
IsAnswer (Month what a m) file s text = IsMonthAnswer what file s a m text
IsAnswer (MeterReadings m) file s text = IsOneMeterText file s m.0 text
IsAnswer (Table Accounts) file s text = text ≡ accounts_text file s
IsAnswer (Table Falls) file s text = IsFallsText file s text
IsAnswer (Table Disputes) file s text = IsDisputesText file s text
IsAnswer (Table Readings) file s text = IsReadingsText file s text
IsAnswer (Table Energies) file s text = text ≡ energies_text file s
IsAnswer (Table Assignments) file s text = IsRecordsText Assignment file s text
IsAnswer (Table TopUps) file s text = IsRecordsText TopUp file s text
IsAnswer (Table Withdrawals) file s text = IsRecordsText Withdrawal file s text
