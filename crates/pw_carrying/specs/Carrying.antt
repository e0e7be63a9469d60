-- The records of a book, carried into the book of another office.
-- (Definitions of this project.)
use Rattle.std.specs.Prelude.{◌≡◌, ◌↔◌, ℕ, true, false, List, ◌++◌, Result, Ok, Err, IsErrOf}
use Rattle.std.specs.declared.cmp.Ordering.TheVariants.{Less}
use Rattle.pw_tariff.specs.Office.{office_of}
use Rattle.pw_model.specs.declared.records.Entry.{Entry}
use Rattle.pw_model.specs.Counting.{Member, SameMembers}
use Rattle.pw_model.specs.Lists.{record_count}
use Rattle.pw_model.specs.Same.{entry_order}
use Rattle.pw_shelf.specs.declared.shelf.Shelf.{Ghosts}
use Rattle.pw_book.specs.declared.book.Book.{Book}
use Rattle.pw_book.specs.declared.fault.BookFault.{BookFault}
use Rattle.pw_book.specs.declared.fault.BookFault.TheVariants as book
use Rattle.pw_book.specs.declared.fault.PostFault.{PostFault}
use Rattle.pw_book.specs.declared.fault.PostFault.TheVariants as post
use Rattle.pw_book.specs.Posting.{FailuresPosted, LeavesSound}
use Rattle.pw_moving.specs.Renaming.{Offices, CanBeCarried, AllCanBeCarried, all_carried}
use Rattle.pw_carrying.specs.declared.fault.CarryFault.{CarryFault}
use Rattle.pw_carrying.specs.declared.fault.CarryFault.TheVariants as carry

-- ---- what the other book holds then
-- beside what it held before, all records of a set, carried; and their number
pub record HasCarried (o : Offices) (records before after : List Entry) (n : ℕ) : Type 0 where
  pub able : AllCanBeCarried o records
  pub content : SameMembers after (before ++ all_carried o records)
  pub count : n ≡ record_count records

-- beside what it held before, some of them
pub record HasCarriedSome (o : Offices) (records before after : List Entry) : Type 0 where
  pub some : List Entry
  pub among : (e : Entry) → Member e some → Member e records
  pub content : SameMembers after (before ++ all_carried o some)

-- the first of them, as they are listed, that the other office can't hold
pub record IsFirstNotCarried (o : Offices) (records : List Entry) (e : Entry) : Type 0 where
  pub held : Member e records
  pub unable : CanBeCarried o e → ⊥
  pub before : (f : Entry) → Member f records → entry_order f e ≡ Less → CanBeCarried o f

-- all, with Ok; with a fault some of them, and the record that is told is the first that the other office can't hold; where
-- an upload couldn't be taken back, nothing is known
abbrev pub IsCarried : Offices → List Entry → List Entry → List Entry → Result ℕ CarryFault → Type 0
IsCarried o records before after (Ok n) = HasCarried o records before after n
IsCarried o records before after (Err (carry.Record e)) = IsFirstNotCarried o records e × HasCarriedSome o records before after
IsCarried o records before after (Err (carry.Post post.Reopen)) = Unit {0}
IsCarried o records before after (Err (carry.Post (post.Full held limit))) = HasCarriedSome o records before after
IsCarried o records before after (Err (carry.Post post.Device)) = HasCarriedSome o records before after
IsCarried o records before after (Err (carry.Post post.Memory)) = HasCarriedSome o records before after
IsCarried o records before after (Err (carry.Book fault)) = HasCarriedSome o records before after
IsCarried o records before after (Err carry.Memory) = HasCarriedSome o records before after

-- ---- whose fault it is
-- what the book that is read answered
abbrev pub asked_of : {X : Type 0} → Result X CarryFault → Result (Unit {0}) BookFault
asked_of (Ok n) = Ok tt
asked_of (Err (carry.Record e)) = Ok tt
asked_of (Err (carry.Post fault)) = Ok tt
asked_of (Err (carry.Book fault)) = Err fault
asked_of (Err carry.Memory) = Err book.Memory

-- what the other one answered to the last upload
abbrev pub posted_of : {X : Type 0} → Result X CarryFault → Result (Unit {0}) PostFault
posted_of (Ok n) = Ok tt
posted_of (Err (carry.Record e)) = Ok tt
posted_of (Err (carry.Post fault)) = Err fault
posted_of (Err (carry.Book fault)) = Ok tt
posted_of (Err carry.Memory) = Ok tt

-- ---- uploads to a book
module _ {S : Type 0} (shelf : Ghosts S) where
  -- uploads, of which the last is answered so: the book is of the same office, and shut where it answers Reopen; where all
  -- that a crash could leave is sound, so is all that it may leave then
  pub record HasUploads {X : Type 0} (answer : Result X PostFault) (old new : Book S shelf) : Type 0 where
    pub clean : shelf.clean new.shelf → shelf.clean old.shelf
    pub sound : shelf.clean new.shelf → LeavesSound (office_of old.office) (shelf.left old.shelf) (shelf.left new.shelf)
    pub failures : FailuresPosted answer (shelf.state old.shelf).failures (shelf.state new.shelf).failures
    pub store : shelf.same_store old.shelf new.shelf
    pub shut : old.shut ≡ false → (new.shut ≡ true) ↔ IsErrOf answer post.Reopen
    pub office : new.office ≡ old.office
    pub zone : new.zone ≡ old.zone
    pub limit : new.limit ≡ old.limit
