-- The laws of these texts. Each is the contract of a function of the module `laws`.
use Rattle.std.specs.Prelude.{◌≡◌, ℕ, ◌+◌, ◌≤◌, cond, List, [], ◌++◌, length, map, ◌⊎◌, ◌↔◌, ℤ, pos, ◌*ℤ◌, ◌+ℤ◌, ◌≤ℤ◌, ◌<ℤ◌}
use Rattle.std.specs.List.{sum_by}
use Rattle.pw_time.specs.declared.instant.TheConstants.{FIRST_SECOND, END_SECOND}
use Rattle.pw_tariff.specs.declared.ids.Direction.{Direction}
use Rattle.pw_tariff.specs.Office.{IsSound, OfficeFile, OfficeRules, office_of}
use Rattle.pw_model.specs.declared.records.Entry.{Entry}
use Rattle.pw_model.specs.Counting.{Member, SameMembers, contents_at}
use Rattle.pw_model.specs.Energy.{all_rises}
use Rattle.pw_model.specs.Office.{AllOfOffice}
use Rattle.pw_model.specs.Payments.{nano_in_cent}
use Rattle.pw_model.specs.Same.{same_direction}
use Rattle.pw_record.specs.declared.row.RowKind.{RowKind}
use Rattle.pw_record.specs.declared.rows.TheConstants.{MOST_ROWS}
use Rattle.pw_record.specs.Listed.{AreListed}
use Rattle.pw_record.specs.Rows.{RowsGive}
use Rattle.pw_record.specs.Uploads.{Upload, Assignments, TopUps, Withdrawals}
use Rattle.pw_record.specs.declared.row.RowKind.TheVariants.{Assignment, TopUp, Withdrawal}
use Rattle.pw_book.specs.After.{After, Brings}
use Rattle.pw_months.specs.Laws.{AreOne}
use Rattle.pw_report.specs.declared.months.Month.{Month as CalendarMonth}
use Rattle.pw_report.specs.declared.page.Page.{Page}
use Rattle.pw_report.specs.declared.page.Page.TheVariants.{Month}
use Rattle.pw_report.specs.Amounts.{cents_below}
use Rattle.pw_report.specs.Exports.{energy_rows, records_text}
use Rattle.pw_report.specs.Months.{IsSpan, IsThere}
use Rattle.pw_report.specs.Pages.{IsAnswer, IsOfRow}

-- ---- amounts
-- so many cents aren't above the amount, and one more would be
pub record AreGreatestCents (nano cents : ℤ) : Type 0 where
  pub within : (pos nano_in_cent *ℤ cents) ≤ℤ nano
  pub next_above : nano <ℤ (pos nano_in_cent *ℤ (cents +ℤ pos 1))

abbrev pub CentsAreGreatest : Type 0
CentsAreGreatest = (nano : ℤ) → AreGreatestCents nano (cents_below nano)

-- ---- pages
-- a page of no month, or of one that there is
abbrev pub HasMonth : Page → Type 0
HasMonth (Month what a m) = IsThere m
HasMonth _ = Unit {0}

-- a set of records has one text of a page, and no other; it is that of each list of the same records
pub record HasOneText (page : Page) (file : OfficeFile) (s : List Entry) : Type 0 where
  pub exists : (text : List ℕ) × IsAnswer page file s text
  pub only : (text other : List ℕ) → IsAnswer page file s text → IsAnswer page file s other → text ≡ other
  pub same : (t : List Entry) (text : List ℕ) → SameMembers s t → IsAnswer page file s text ↔ IsAnswer page file t text

abbrev pub EachPageHasOneText : Type 0
EachPageHasOneText = (page : Page) (file : OfficeFile) (s : List Entry) → HasMonth page → HasOneText page file s

-- ---- months one behind another
-- the second month is the one behind the first
abbrev pub IsNext : CalendarMonth → CalendarMonth → Type 0
IsNext m n = ((n.year ≡ m.year) × (n.month ≡ m.month + 1)) ⊎ ((n.year ≡ m.year + 1) × (m.month ≡ 12) × (n.month ≡ 1))

-- the bills of two such months are one bill, and the first of them ends with the balance that the second begins with
abbrev pub MonthsFollow : Type 0
MonthsFollow = (office : OfficeRules) (s : List Entry) (a : ℕ) (m n : CalendarMonth) (from until begin end : ℕ) → IsThere n →
    IsNext m n → IsSpan m from until → IsSpan n begin end → (until ≡ begin) × AreOne office s a from until end

-- so are those of all months: the first begins with the first instant, and the last ends behind the last instant
pub record MonthsAreAllTime : Type 0 where
  pub follow : MonthsFollow
  pub first : (from until : ℕ) → IsSpan (record { year = 2000; month = 1 }) from until → from ≡ FIRST_SECOND
  pub last : (from until : ℕ) → IsSpan (record { year = 2099; month = 12 }) from until → until ≡ END_SECOND

-- ---- what was exported as an upload
-- at most 1,000 records of an office, shown as rows below their header, are an upload that gives just these
abbrev pub ExportsAreUploads : Type 0
ExportsAreUploads = (file : OfficeFile) (kind : RowKind) (records entries : List Entry) → IsSound file → AllOfOffice (office_of file) records →
    ((e : Entry) → Member e records → IsOfRow kind e.key) → length records ≤ MOST_ROWS → AreListed records entries →
    RowsGive file kind (records_text file kind records) entries

-- ---- a book moved to another one
-- some of the records that were exported, all of one kind
pub record Part : Type 0 where
  pub kind : RowKind
  pub records : List Entry

-- at most 1,000 of these
pub record IsPartOf (s : List Entry) (p : Part) : Type 0 where
  pub held : (e : Entry) → Member e p.records → Member e s
  pub kinds : (e : Entry) → Member e p.records → IsOfRow p.kind e.key
  pub few : length p.records ≤ MOST_ROWS

-- the upload that rows are
abbrev pub rows_upload : RowKind → List ℕ → Upload
rows_upload Assignment text = Assignments text
rows_upload TopUp text = TopUps text
rows_upload Withdrawal text = Withdrawals text

abbrev pub part_upload : OfficeFile → Part → Upload
part_upload file p = rows_upload p.kind (records_text file p.kind p.records)

-- each record stands in a part, or another upload brings it, as one of telegrams; and none of these brings another one
pub record AreMoved (file : OfficeFile) (s : List Entry) (parts : List Part) (others : List Upload) : Type 0 where
  pub of_parts : (p : Part) → Member p parts → IsPartOf s p
  pub of_others : (u : Upload) (e : Entry) → Member u others → Brings file u e → Member e s
  pub all : (e : Entry) → Member e s → ((p : Part) × Member p parts × Member e p.records) ⊎ ((u : Upload) × Member u others × Brings file u e)

-- behind all these uploads, in whatever order, a book of this office in which nothing was held has the same records
abbrev pub ExportsMoveBooks : Type 0
ExportsMoveBooks = (file : OfficeFile) (s : List Entry) (parts : List Part) (others : List Upload) (records : List Entry) → IsSound file → AllOfOffice (office_of file) s →
    AreMoved file s parts others → After file [] (map (part_upload file) parts ++ others) records → SameMembers records s

-- ---- conservation
-- the energies of a direction that are exported add up to all that its neighbours rise by
abbrev pub NothingIsLostInExport : Type 0
NothingIsLostInExport = (file : OfficeFile) (s : List Entry) (d : Direction) → IsSound file → AllOfOffice (office_of file) s →
    sum_by (λ row. cond (same_direction row.direction d) row.wh 0) (energy_rows file s) ≡ all_rises (office_of file) (contents_at s) d
