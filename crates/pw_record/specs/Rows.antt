-- A body of rows: the entries that it gives, or why it is refused.
-- (A format of this project over CSV, RFC 4180, with comma and double quote. `Reached` and `AreRecords` are the relations in
-- which the library that reads CSV states what it reads.)
use Rattle.std.specs.Prelude.{◌≡◌, ℕ, ◌≤◌, ◌<◌, ◌⊎◌, List, [], ◌∷◌, ◌++◌, length}
use Rattle.csv.specs.Reading.{Reached, AreRecords, default_config, strip_bom}
use Rattle.csv.specs.declared.parser.State.{State}
use Rattle.csv.specs.declared.parser.State.TheVariants as st
use Rattle.pw_tariff.specs.Office.{OfficeFile}
use Rattle.pw_model.specs.declared.records.Entry.{Entry}
use Rattle.pw_record.specs.declared.fault.Cause.{Cause}
use Rattle.pw_record.specs.declared.fault.Cause.TheVariants.{Header, TooManyParts}
use Rattle.pw_record.specs.declared.fault.UploadFault.{UploadFault}
use Rattle.pw_record.specs.Causes.{want_of_memory}
use Rattle.pw_record.specs.declared.row.RowKind.{RowKind}
use Rattle.pw_record.specs.declared.row.RowKind.TheVariants.{Assignment, TopUp, Withdrawal}
use Rattle.pw_record.specs.declared.rows.TheConstants.{MOST_ROWS}
use Rattle.pw_record.specs.Listed.{AreListed}
use Rattle.pw_record.specs.Row.{Row, header_of, GivesEntry, RefusesRow}

-- all the records of a body; a byte order mark in front of them is none of theirs
abbrev pub AreRows : List ℕ → List Row → Type 0
AreRows body rows = AreRecords default_config st.StartRecord (strip_bom body) rows

-- the first records of a body
pub record RowsFront (body : List ℕ) (rows : List Row) : Type 0 where
  pub state : State
  pub rest : List ℕ
  pub reached : Reached default_config st.StartRecord (strip_bom body) rows state rest

-- each row gives its entry
abbrev pub GiveEntries : OfficeFile → RowKind → List Row → List Entry → Type 0
GiveEntries file kind [] entries = entries ≡ []
GiveEntries file kind (row ∷ rows) [] = ⊥
GiveEntries file kind (row ∷ rows) (entry ∷ entries) = GivesEntry file kind row entry × GiveEntries file kind rows entries

-- the header, and so many rows behind it that each give an entry: none of these records is refused
abbrev pub AreGoodRecords : OfficeFile → RowKind → List Row → List Entry → Type 0
AreGoodRecords file kind [] given = given ≡ []
AreGoodRecords file kind (header ∷ rows) given = (header ≡ header_of kind) × (length rows ≤ MOST_ROWS) × GiveEntries file kind rows given

-- the body is the header and at most 1,000 rows; the entries are those of its rows
pub record RowsGive (file : OfficeFile) (kind : RowKind) (body : List ℕ) (entries : List Entry) : Type 0 where
  pub rows : List Row
  pub given : List Entry
  pub body_is : AreRows body (header_of kind ∷ rows)
  pub few : length rows ≤ MOST_ROWS
  pub each : GiveEntries file kind rows given
  pub listed : AreListed given entries

-- ---- why the record with a number is refused, the header being 0
-- it stands in the header's place and isn't the header
pub record RefusesHeader (kind : RowKind) (part : ℕ) (row : Row) (cause : Cause) : Type 0 where
  pub first : part ≡ 0
  pub unlike : row ≡ header_of kind → ⊥
  pub cause_is : cause ≡ Header

-- it is a row too many
pub record RefusesAnother (part : ℕ) (cause : Cause) : Type 0 where
  pub late : MOST_ROWS < part
  pub cause_is : cause ≡ TooManyParts

-- it is a row that is refused
pub record RefusesPart (file : OfficeFile) (kind : RowKind) (part : ℕ) (row : Row) (cause : Cause) : Type 0 where
  pub behind : 1 ≤ part
  pub early : part ≤ MOST_ROWS
  pub refused : RefusesRow file kind row cause

abbrev pub RefusesRecord : OfficeFile → RowKind → ℕ → Row → Cause → Type 0
RefusesRecord file kind part row cause = RefusesHeader kind part row cause ⊎ (RefusesAnother part cause ⊎ RefusesPart file kind part row cause)

-- behind records that aren't refused stands one that is, whatever stands behind it
pub record RefusedAt (file : OfficeFile) (kind : RowKind) (body : List ℕ) (part : ℕ) (cause : Cause) : Type 0 where
  pub before : List Row
  pub given : List Entry
  pub row : Row
  pub front : RowsFront body (before ++ row ∷ [])
  pub good : AreGoodRecords file kind before given
  pub part_is : part ≡ length before
  pub refused : RefusesRecord file kind part row cause

-- a body without any record has no header
pub record HasNoRecord (body : List ℕ) (fault : UploadFault) : Type 0 where
  pub none : AreRows body []
  pub part_is : fault.part ≡ 0
  pub cause_is : fault.cause ≡ Header

-- why a body of rows is refused; want of memory says nothing of the body
abbrev pub RowsRefused : OfficeFile → RowKind → List ℕ → UploadFault → Type 0
RowsRefused file kind body fault = (fault ≡ want_of_memory) ⊎ (HasNoRecord body fault ⊎ RefusedAt file kind body fault.part fault.cause)

-- ---- a body of assignments, one of top-ups, and one of withdrawals
abbrev pub AssignmentsGive : OfficeFile → List ℕ → List Entry → Type 0
AssignmentsGive file body entries = RowsGive file Assignment body entries

abbrev pub AssignmentsRefused : OfficeFile → List ℕ → UploadFault → Type 0
AssignmentsRefused file body fault = RowsRefused file Assignment body fault

abbrev pub TopUpsGive : OfficeFile → List ℕ → List Entry → Type 0
TopUpsGive file body entries = RowsGive file TopUp body entries

abbrev pub TopUpsRefused : OfficeFile → List ℕ → UploadFault → Type 0
TopUpsRefused file body fault = RowsRefused file TopUp body fault

abbrev pub WithdrawalsGive : OfficeFile → List ℕ → List Entry → Type 0
WithdrawalsGive file body entries = RowsGive file Withdrawal body entries

abbrev pub WithdrawalsRefused : OfficeFile → List ℕ → UploadFault → Type 0
WithdrawalsRefused file body fault = RowsRefused file Withdrawal body fault

-- ---- what one more record does to the entries
