-- What a crash leaves of a store over SQL, and what it holds when it is opened again.
-- (Definitions of this project.)
use Rattle.std.specs.Prelude.{List}
use Rattle.sqlite.specs.Effect.{Database, IsDatabase}
use Rattle.sqlite.specs.State.{State as Sql, HasCleanDisk}
use Rattle.pw_tariff.specs.Office.{OfficeRules}
use Rattle.pw_model.specs.Shelf.{ShelfContent}
use Rattle.pw_store.specs.Opening.{IsFound}
use Rattle.pw_book.specs.declared.laws.crashes.Sent.{Sent}
use Rattle.pw_book.specs.Crashes.{IsLeftWhole}

-- a database that a crash may leave of a connection whose disk has returned what was written to it
pub record IsCrashed (s : Sql) (found : Database) : Type 0 where
  pub clean : HasCleanDisk s
  pub database : IsDatabase found
  pub left : s.may_leave found.trees

-- what a store held when it was opened: what its tables had, or nothing where they were made
abbrev pub WasHeld : OfficeRules → Database → ShelfContent → Type 0
WasHeld office found c = IsFound office found c

-- beside that, whole uploads, and each that was accepted
abbrev pub HoldsWhole : OfficeRules → Database → List Sent → ShelfContent → Type 0
HoldsWhole office found uploads c = (before : ShelfContent) × WasHeld office found before × IsLeftWhole office before.records uploads c
