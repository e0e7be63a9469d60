-- What each database that a crash may leave keeps of the store that was opened.
-- (Definitions of this project.)
use Rattle.std.specs.Prelude.{◌≡◌, ◌⊎◌, ℕ, Option, None, IsTrue, List, [], ◌≤◌, length}
use Rattle.std.specs.List.{AllByRecursion}
use Rattle.sqlite.specs.Order.{Row, column}
use Rattle.sqlite.specs.Tree.{Trees}
use Rattle.sqlite.specs.Effect.{Database, IsDatabase}
use Rattle.sqlite.specs.State.{State as Sql, HasCleanDisk}
use Rattle.sqlite_trees.specs.Objects.{catalog_tree}
use Rattle.pw_tariff.specs.declared.ids.AccountId.{AccountId}
use Rattle.pw_tariff.specs.declared.ids.BandId.{BandId}
use Rattle.pw_tariff.specs.declared.ids.Direction.{Direction}
use Rattle.pw_tariff.specs.declared.ids.PeriodId.{PeriodId}
use Rattle.pw_tariff.specs.Office.{OfficeFile, OfficeRules, office_of}
use Rattle.pw_tariff.specs.Text.{IsOfficeOf}
use Rattle.pw_model.specs.Office.{AllOfOffice, most_records}
use Rattle.pw_model.specs.declared.records.TotalKey.TheVariants.{Energy}
use Rattle.pw_model.specs.Shelf.{IsTrueContent, ShelfContent, total_among}
use Rattle.pw_schema.specs.Conflicts.{AreWithoutConflict}
use Rattle.pw_schema.specs.Judging.{KeepsOffice, KeepsVersion}
use Rattle.pw_schema.specs.Rows.{number}
use Rattle.pw_schema.specs.Fresh.{AreNew}
use Rattle.pw_schema.specs.Raised.{HasSame, IsRaised, all_but_office}
use Rattle.pw_schema.specs.Tables.{IsEarlier, IsOurs, no_schema}
use Rattle.pw_schema.specs.declared.kind.StoreVersion.{StoreVersion}
use Rattle.pw_schema.specs.declared.kind.StoreVersion.TheVariants.{Third}
use Rattle.pw_schema.specs.declared.kind.TotalKind.TheVariants.{Energies}
use Rattle.pw_store.specs.Content.{content_of, content_of_version, energy_in, energy_told, energy_tree, payment_in, payment_told, payment_tree, records_of, total_in, total_tree}
use Rattle.pw_store.specs.declared.fault.OpenFault.{OpenFault}
use Rattle.pw_store.specs.declared.fault.OpenFault.TheVariants.{Store, Memory, OfficeDiffers, Version, Unclean}
use Rattle.pw_store.specs.Opening.{HasRows, HoldsTables, HoldsTotals, IsFound, IsOpenable, KeepsText, NamesOffice, Refuses}

-- ---- what is kept of earlier trees
-- a total of 0 has a key that had a row there
abbrev pub IsOldEnergy : Trees → Row → Type 0
IsOldEnergy before r = number (column r 5) ≡ 0 → energy_told (before energy_tree) (energy_in r) ≡ None → ⊥

abbrev pub IsOldPayment : Trees → Row → Type 0
IsOldPayment before r = number (column r 2) ≡ 0 → payment_told (before payment_tree) (payment_in r) ≡ None → ⊥

-- the list of tables and the rows of `office` are the same, and no total of 0 was put
pub record Keeps (before db : Trees) : Type 0 where
  pub listed : db catalog_tree ≡ before catalog_tree
  pub office : db 0 ≡ before 0
  pub energies : AllByRecursion (IsOldEnergy before) (db energy_tree)
  pub payments : AllByRecursion (IsOldPayment before) (db payment_tree)

-- ---- what the fields keep to: of a connection, and of it as it was when the store was opened
pub record IsLeftOf (s opened : Sql) : Type 0 where
  -- a database with that list of tables has our tables
  pub ours : (found : Database) → IsDatabase found → found.trees catalog_tree ≡ opened.now.trees catalog_tree → IsOurs found.schema
  pub now : IsTrue s.is_open → Keeps opened.now.trees s.now.trees
  pub committed : IsTrue s.is_open → Keeps opened.now.trees s.committed.trees
  pub left : (db : Trees) → s.may_leave db → HasRows Third db × Keeps opened.now.trees db

abbrev pub KeepsOpened : Sql → Sql → Type 0
KeepsOpened s opened = HasCleanDisk s → IsLeftOf s opened

-- ---- what a refused opening may leave behind a crash
-- the tables of a new store with this text, where nothing was there
abbrev pub MayBeNew : List ℕ → Sql → Trees → Type 0
MayBeNew body s db = (s.committed.schema ≡ no_schema) × AreNew body db

-- the totals of energy by period are those of the records, each row one of the office and no key twice, and by band alone
-- there is none
pub record IsFilled (office : OfficeRules) (db : Trees) : Type 0 where
  pub energies : HoldsTotals office Energies (db energy_tree)
  pub old : db total_tree ≡ []
  pub told : (o : Option AccountId) (p : PeriodId) (b : BandId) (d : Direction) → total_in db (Energy o p b d) ≡ total_among office (records_of db) (Energy o p b d)

-- a store of an earlier version with this text brought to version 3 whole: the tables of version 3 with this text, whose
-- rows of records, points, starts and top-ups are those of before, with the energies that the records give, and so its
-- content
pub record IsUpgraded (v : StoreVersion) (office : OfficeRules) (body : List ℕ) (before found : Database) : Type 0 where
  pub earlier : IsEarlier v
  pub was : HoldsTables v before
  pub was_text : KeepsText (KeepsVersion v body) before.trees
  pub ours : HoldsTables Third found
  pub listed : IsDatabase found
  pub text : KeepsText (KeepsOffice body) found.trees
  pub raised : IsRaised v before.trees found.trees
  pub filled : IsFilled office found.trees
  pub content : content_of found.trees ≡ content_of_version office v before.trees

abbrev pub MayBeUpgraded : OfficeRules → List ℕ → Database → Trees → Type 0
MayBeUpgraded office body before db = (v : StoreVersion) × ((found : Database) × (IsUpgraded v office body before found × (db ≡ found.trees)))

-- of either: the one where nothing was there, the other where a store of an earlier version was
abbrev pub MayBeMade : OfficeRules → List ℕ → Sql → Trees → Type 0
MayBeMade office body s db = MayBeNew body s db ⊎ MayBeUpgraded office body s.committed db

-- ---- what a crash leaves opens again
-- the tables of a store of this office and text
abbrev pub IsOfText : OfficeRules → List ℕ → Trees → Type 0
IsOfText office body db = KeepsText (KeepsOffice body) db × (NamesOffice Third office db × AreWithoutConflict db)

-- a true content of at most 10,000,000 entries of the office
pub record IsSoundOf (office : OfficeRules) (c : ShelfContent) : Type 0 where
  pub of_office : AllOfOffice office c.records
  pub few : length c.records ≤ most_records
  pub truth : IsTrueContent office c

-- a database that a crash may leave of a store of this office and text, with such a content
pub record IsLeftSound (s opened : Sql) (office : OfficeRules) (body : List ℕ) (found : Database) : Type 0 where
  pub clean : HasCleanDisk s
  pub text : IsOfText office body opened.now.trees
  pub database : IsDatabase found
  pub left : s.may_leave found.trees
  pub sound : IsSoundOf office (content_of found.trees)

-- what is found refuses it only for the engine's sake, or for memory
abbrev pub LeftOpens : Sql → Sql → Type 0
LeftOpens s opened =
    (office : OfficeFile) (body : List ℕ) (found : Database) → IsOfficeOf body office → IsLeftSound s opened (office_of office) body found
    → (fault : OpenFault) → Refuses (office_of office) body found fault → (fault ≡ Store) ⊎ (fault ≡ Memory)

-- so it is of what a connection has committed, and of the office of the text
abbrev pub IsLeftBehind : Sql → Sql → List ℕ → Sql → Type 0
IsLeftBehind s opened body found = (office : OfficeFile) → IsOfficeOf body office → IsLeftSound s opened (office_of office) body found.committed

-- ---- what is left of a store of an earlier version that was being brought to version 3 opens again
-- what is found refuses it only for the engine's sake, or for memory, where the store of before was such as opens
abbrev pub UpgradedOpens : Type 0
UpgradedOpens =
    (v : StoreVersion) (office : OfficeRules) (body : List ℕ) (before found : Database) (fault : OpenFault) → IsOpenable v office body before → IsUpgraded v office body before found
    → Refuses office body found fault → (fault ≡ Store) ⊎ (fault ≡ Memory)

-- what it holds then is what the store of before held
abbrev pub UpgradedHolds : Type 0
UpgradedHolds = (v : StoreVersion) (office : OfficeRules) (body : List ℕ) (before found : Database) (c : ShelfContent) → IsUpgraded v office body before found → IsFound office found c → IsFound office before c

-- ---- another office file in the place of a store's own
-- what a store holds is such as an office has: the content is true, of at most 10,000,000 entries of the office, and each
-- total that is kept, a total of 0 too, names what the office has
pub record SuitsOffice (office : OfficeRules) (c : ShelfContent) (db : Trees) : Type 0 where
  pub sound : IsSoundOf office c
  pub named : NamesOffice Third office db

-- why another office file is refused: what is held isn't such as that office has
abbrev pub AdoptionRefuses : OfficeRules → ShelfContent → Trees → OpenFault → Type 0
AdoptionRefuses office c db Store = Unit {0}
AdoptionRefuses office c db Memory = Unit {0}
AdoptionRefuses office c db OfficeDiffers = ⊥
AdoptionRefuses office c db Version = ⊥
AdoptionRefuses office c db Unclean = SuitsOffice office c db → ⊥

-- a store with another text in the place of its own: each row but that of `office` is that of before, and it is such as
-- opens with this text
pub record IsAdopted (office : OfficeRules) (body : List ℕ) (before found : Database) : Type 0 where
  pub listed : IsDatabase found
  pub same : HasSame all_but_office before.trees found.trees
  pub openable : IsOpenable Third office body found

abbrev pub MayBeAdopted : OfficeRules → List ℕ → Database → Trees → Type 0
MayBeAdopted office body before db = (found : Database) × (IsAdopted office body before found × (db ≡ found.trees))

-- it is refused only for the engine's sake, or for memory
abbrev pub AdoptedOpens : Type 0
AdoptedOpens =
    (office : OfficeRules) (body : List ℕ) (before found : Database) (fault : OpenFault) → IsAdopted office body before found → Refuses office body found fault → (fault ≡ Store) ⊎ (fault ≡ Memory)

-- what it holds is what the store of before held
abbrev pub AdoptedHolds : Type 0
AdoptedHolds = (office : OfficeRules) (body : List ℕ) (before found : Database) (c : ShelfContent) → IsAdopted office body before found → IsFound office found c → c ≡ content_of before.trees
