-- What a report leaves of a book. It asks the book several questions.
-- (Definitions of this project.)
use Rattle.std.specs.Prelude.{◌≡◌, ◌↔◌, ℕ, true, List, Vec, Result, IfOk, IsErrOf}
use Rattle.std.specs.Global.{Global}
use Rattle.pw_tariff.specs.Office.{OfficeFile}
use Rattle.pw_model.specs.declared.records.Entry.{Entry}
use Rattle.pw_shelf.specs.Calls.{GoesOn}
use Rattle.pw_shelf.specs.declared.shelf.Shelf.{Ghosts}
use Rattle.pw_book.specs.declared.book.Book.{Book}
use Rattle.pw_book.specs.declared.fault.BookFault.{BookFault}
use Rattle.pw_book.specs.declared.fault.BookFault.TheVariants.{Reopen}
use Rattle.pw_book.specs.Questions.{failures_asked}

module _ {S : Type 0} (shelf : Ghosts S) where
  -- questions that tell so many failures of the device: the records are as before, and nothing of the book is touched
  pub record IsAsked (told : ℕ) (old new : Book S shelf) : Type 0 where
    pub content : shelf.clean new.shelf → (shelf.state new.shelf).content ≡ (shelf.state old.shelf).content
    pub kept : GoesOn shelf.state shelf.left shelf.clean shelf.same_store told old.shelf new.shelf
    pub shut : new.shut ≡ old.shut
    pub office : new.office ≡ old.office
    pub zone : new.zone ≡ old.zone
    pub limit : new.limit ≡ old.limit

  -- as with one question: a shut book answers Reopen and leaves the shelf alone, and no other book answers Reopen; one
  -- failure of the device is counted where it answers Device, and else none
  pub record IsReport {T : Type 0} (answer : Result T BookFault) (old new : Book S shelf) : Type 0 where
    pub asked : IsAsked (failures_asked answer) old new
    pub reopen : IsErrOf answer Reopen ↔ (old.shut ≡ true)
    pub untouched : old.shut ≡ true → new.shelf ≡ old.shelf

  -- the text of a report is such a one of the office and the records held, where the store has returned what was written
  abbrev pub TellsText : {E : Type 0} → (OfficeFile → List Entry → List ℕ → Type 0) → Result (Vec ℕ Global) E → Book S shelf → Book S shelf → Type 0
  TellsText is_text answer old new = shelf.clean new.shelf → IfOk answer (λ text. is_text old.office (shelf.state old.shelf).content.records text.items)
