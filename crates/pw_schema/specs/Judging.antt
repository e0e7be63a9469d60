-- Which rows are of an office, and what the row of `office` says.
-- (Definitions of this project.)
use Rattle.std.specs.Prelude.{◌≡◌, ℕ, ℤ, ◌<◌, pos, List, [], ◌∷◌, map}
use Rattle.std.specs.List.{AllByRecursion}
use Rattle.sqlite.specs.declared.types.Value.{Value}
use Rattle.sqlite.specs.declared.types.Value.TheVariants.{Int, Blob}
use Rattle.sqlite.specs.Order.{Row, column}
use Rattle.pw_tariff.specs.Office.{OfficeRules}
use Rattle.pw_model.specs.declared.records.TotalKey.{TotalKey}
use Rattle.pw_model.specs.declared.records.TotalKey.TheVariants.{Energy, TopUps}
use Rattle.std.specs.declared.cmp.Ordering.{Ordering}
use Rattle.pw_model.specs.declared.records.Entry.{Entry}
use Rattle.pw_model.specs.Same.{entry_order, key_order, total_order}
use Rattle.pw_model.specs.Counting.{EachOnce}
use Rattle.pw_model.specs.Lists.{IsInOrder}
use Rattle.pw_model.specs.Office.{HasOwner, IsOfOffice}
use Rattle.pw_schema.specs.declared.kind.RecordKind.{RecordKind}
use Rattle.pw_schema.specs.declared.kind.StoreVersion.{StoreVersion}
use Rattle.pw_schema.specs.declared.kind.StoreVersion.TheVariants.{Third}
use Rattle.pw_schema.specs.declared.kind.TotalKind.{TotalKind}
use Rattle.pw_schema.specs.Tables.{version_number}
use Rattle.pw_schema.specs.Rows.{told, Tells, told_key, told_amount, TellsTotal}

-- ---- records
-- the row is a record of the office
abbrev pub IsRecord : OfficeRules → RecordKind → Row → Type 0
IsRecord office k r = Tells k r × IsOfOffice office (told k r)

-- the rows are records of the office, each once
pub record AreRecords (office : OfficeRules) (k : RecordKind) (rows : List Row) : Type 0 where
  pub each : AllByRecursion (IsRecord office k) rows
  pub once : EachOnce (map (told k) rows)

-- the rows are records of the office, in the order of records
pub record AreInOrder (office : OfficeRules) (k : RecordKind) (rows : List Row) : Type 0 where
  pub each : AllByRecursion (IsRecord office k) rows
  pub rising : IsInOrder entry_order (map (told k) rows)

-- ---- totals
-- the key of a total names an owner, a period and a band, or an account, of the office
abbrev pub IsTotalOf : OfficeRules → TotalKey → Type 0
IsTotalOf office (Energy o p b d) = HasOwner office o × (p.0 < office.periods) × (b.0 < office.bands)
IsTotalOf office (TopUps a) = a.0 < office.accounts

abbrev pub IsTotal : OfficeRules → TotalKind → Row → Type 0
IsTotal office k r = TellsTotal k r × IsTotalOf office (told_key k r)

abbrev pub told_total : TotalKind → Row → TotalKey × ℕ
told_total k r = (told_key k r, told_amount k r)

-- the rows are totals of the office, with no key twice
pub record AreTotals (office : OfficeRules) (k : TotalKind) (rows : List Row) : Type 0 where
  pub each : AllByRecursion (IsTotal office k) rows
  pub once : EachOnce (map (told_key k) rows)

-- ---- points and starts, each told as a record
-- the rows are of the office, with no key twice
pub record AreKept (office : OfficeRules) (k : RecordKind) (rows : List Row) : Type 0 where
  pub each : AllByRecursion (IsRecord office k) rows
  pub once : EachOnce (map (λ r. (told k r).key) rows)

-- ---- in the order of their keys
abbrev pub by_key : Entry → Entry → Ordering
by_key e f = key_order e.key f.key

abbrev pub by_total : TotalKey × ℕ → TotalKey × ℕ → Ordering
by_total a b = total_order a.0 b.0

-- ---- rowids, each the first column of a row
-- the number that the value is; 0 where it is none
abbrev pub id_of : Value → ℤ
id_of (Int n) = n
id_of _ = pos 0

-- each row shows a rowid, and none stands there twice
pub record AreRowids (rows : List Row) : Type 0 where
  pub each : AllByRecursion (λ r. column r 0 ≡ Int (id_of (column r 0))) rows
  pub once : EachOnce (map (λ r. id_of (column r 0)) rows)

-- ---- the row of `office`, as a query shows it: version and text
-- this version and this text are kept, and nothing else
abbrev pub KeepsVersion : StoreVersion → List ℕ → List Row → Type 0
KeepsVersion v body rows =
    (row : Row) × (rows ≡ row ∷ []) × (column row 0 ≡ Int (pos (version_number v))) × (column row 1 ≡ Blob body)

-- so it is of an opened store
abbrev pub KeepsOffice : List ℕ → List Row → Type 0
KeepsOffice = KeepsVersion Third

-- there is a row, of this version
abbrev pub HasVersion : StoreVersion → List Row → Type 0
HasVersion v rows = (row : Row) × (rows ≡ row ∷ []) × (column row 0 ≡ Int (pos (version_number v)))

-- there is a row, of no version that is known
abbrev pub HasOtherVersion : List Row → Type 0
HasOtherVersion rows =
    (row : Row) × (rows ≡ row ∷ []) × ((v : StoreVersion) → (column row 0 ≡ Int (pos (version_number v))) → ⊥)

-- there is a row of this version, with another text
abbrev pub HasOtherText : StoreVersion → List ℕ → List Row → Type 0
HasOtherText v body rows =
    (row : Row) × (rows ≡ row ∷ []) × (column row 0 ≡ Int (pos (version_number v))) × ((column row 1 ≡ Blob body) → ⊥)
