-- What is told of a store that was opened, or that was given another office file, as far as its disk has returned what was
-- written.
-- (Definitions of this project.)
use Rattle.std.specs.Prelude.{◌≡◌, List, ℕ, IsTrue}
use Rattle.sqlite_trees.specs.declared.store.Store.{Ghosts}
use Rattle.sqlite.specs.Held.{state}
use Rattle.sqlite.specs.State.{State, HasCleanDisk}
use Rattle.sqlite.specs.Tree.{Trees}
use Rattle.pw_tariff.specs.Office.{OfficeFile, OfficeRules, office_of}
use Rattle.pw_tariff.specs.Text.{IsOfficeOf}
use Rattle.pw_model.specs.Shelf.{ShelfContent}
use Rattle.pw_shelf.specs.Left.{LeavesOnly}
use Rattle.pw_schema.specs.Judging.{KeepsOffice}
use Rattle.pw_schema.specs.Tables.{IsOurs}
use Rattle.pw_store.specs.Kept.{written_of, left_of}
use Rattle.pw_store.specs.Opening.{KeepsText}
use Rattle.pw_store.specs.Waiting.{with_waiting}
use Rattle.pw_store.specs.declared.shelf.SqlShelf.{SqlShelf}

-- a text is that of an office file whose rules are such
abbrev pub IsTextOf : List ℕ → (OfficeRules → Type 0) → Type 0
IsTextOf body AreSuch = (office : OfficeFile) × IsOfficeOf body office × AreSuch (office_of office)

-- a connection is open, and its disk has returned what was written
abbrev pub IsCleanAndOpen : State → Type 0
IsCleanAndOpen s = HasCleanDisk s × IsTrue s.is_open

module _ {S : Type 0} (store : Ghosts S) where
  -- what it holds
  abbrev pub held_in : SqlShelf S store → ShelfContent
  held_in s = with_waiting s.waiting.items (written_of (state store s.conn) (state store s.base.value))

  -- what it holds is such
  abbrev pub Holds : (ShelfContent → Type 0) → SqlShelf S store → Type 0
  Holds IsSuch s = HasCleanDisk (state store s.conn) → IsSuch (held_in s)

  -- what stood in its tables when it was opened is such
  abbrev pub WasOpened : (Trees → Type 0) → SqlShelf S store → Type 0
  WasOpened AreSuch s = HasCleanDisk (state store s.conn) → AreSuch (state store s.opened.value).now.trees

  -- its tables are ours, and the row of `office` has this text
  abbrev pub HoldsText : List ℕ → SqlShelf S store → Type 0
  HoldsText body s =
      HasCleanDisk (state store s.conn) → IsOurs (state store s.conn).now.schema × KeepsText (KeepsOffice body) (state store s.conn).now.trees

  -- a crash leaves nothing but what it holds
  abbrev pub LeavesItAlone : SqlShelf S store → Type 0
  LeavesItAlone s =
      HasCleanDisk (state store s.conn) → LeavesOnly (held_in s) (left_of (state store s.conn))

  -- nothing was counted yet: no failure, no upload that couldn't be abandoned, no call and no row
  abbrev pub HasCountedNothing : SqlShelf S store → Type 0
  HasCountedNothing s = (s.failures.count ≡ 0) × (s.failed_abandons.count ≡ 0) × (s.tally.count ≡ 0)
