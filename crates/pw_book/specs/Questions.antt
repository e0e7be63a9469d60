-- What a question leaves of a book.
-- (Definitions of this project.)
use Rattle.std.specs.Prelude.{◌≡◌, ◌↔◌, ℕ, true, Result, Ok, Err, IsErrOf}
use Rattle.pw_shelf.specs.declared.shelf.Shelf.{Ghosts}
use Rattle.pw_book.specs.Asking.{IsOnlyAsked}
use Rattle.pw_book.specs.declared.book.Book.{Book}
use Rattle.pw_book.specs.declared.fault.BookFault.{BookFault}
use Rattle.pw_book.specs.declared.fault.BookFault.TheVariants.{Device, Memory, Reopen}

-- how many failures of the device a question tells: one where it answers Device
abbrev pub failures_asked : {T : Type 0} → Result T BookFault → ℕ
failures_asked (Ok answer) = 0
failures_asked (Err Device) = 1
failures_asked (Err Memory) = 0
failures_asked (Err Reopen) = 0

module _ {S : Type 0} (shelf : Ghosts S) where
  -- the shelf is only asked, and nothing else is touched; a shut book answers Reopen and leaves the shelf alone, and no
  -- other book answers Reopen
  pub record IsQuestion {T : Type 0} (answer : Result T BookFault) (old new : Book S shelf) : Type 0 where
    pub asked : IsOnlyAsked shelf (failures_asked answer) old.shelf new.shelf
    pub reopen : IsErrOf answer Reopen ↔ (old.shut ≡ true)
    pub untouched : old.shut ≡ true → new.shelf ≡ old.shelf
    pub shut : new.shut ≡ old.shut
    pub office : new.office ≡ old.office
    pub zone : new.zone ≡ old.zone
    pub limit : new.limit ≡ old.limit
