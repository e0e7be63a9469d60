-- What an upload does to the records held.
-- (Definitions of this project.)
use Rattle.std.specs.Prelude.{◌≡◌, ℕ, ◌+◌, ◌<◌, ◌≤◌, ◌⊎◌, Bool, true, false, cond, not, List, ◌++◌, Result, Ok, Err, OnOk, filter, length}
use Rattle.pw_model.specs.declared.records.Entry.{Entry}
use Rattle.pw_model.specs.Counting.{EachOnce, SameMembers}
use Rattle.pw_model.specs.Lists.{record_count}
use Rattle.pw_model.specs.Payments.{stands_in, sum_once}
use Rattle.pw_model.specs.Same.{same_entry}
use Rattle.pw_model.specs.Office.{AllOfOffice, most_records}
use Rattle.pw_model.specs.Shelf.{IsTrueContent, ShelfContent}
use Rattle.pw_tariff.specs.Office.{OfficeRules}
use Rattle.pw_shelf.specs.Left.{LeavesNoMore, LeavesOnly}
use Rattle.pw_shelf.specs.declared.shelf.Shelf.{Ghosts}
use Rattle.pw_book.specs.declared.book.Accepted.{Accepted}
use Rattle.pw_book.specs.declared.fault.PostFault.{PostFault}
use Rattle.pw_book.specs.declared.fault.PostFault.TheVariants.{Full, Device, Memory, Reopen}

-- ---- entries of an upload
-- those that aren't held, in their order
abbrev pub fresh_of : List Entry → List Entry → List Entry
fresh_of held entries = filter (λ e. not (stands_in same_entry e held)) entries

-- ---- each counted once
-- how many aren't held
abbrev pub fresh_in : List Entry → List Entry → ℕ
fresh_in held entries = sum_once same_entry (λ e. cond (stands_in same_entry e held) 0 1) entries

-- how many are held
abbrev pub repeated_in : List Entry → List Entry → ℕ
repeated_in held entries = sum_once same_entry (λ e. cond (stands_in same_entry e held) 1 0) entries

-- ---- what is held after it
-- the content with the whole upload: the records before with the entries, each held once, and points, starts and totals
-- that are theirs
pub record IsWithUpload (office : OfficeRules) (entries : List Entry) (old new : ShelfContent) : Type 0 where
  pub once : EachOnce new.records
  pub records : SameMembers new.records (old.records ++ entries)
  pub truth : IsTrueContent office new

-- ---- what is answered
-- held and fresh together are no more than the limit
abbrev pub HasRoom : ℕ → List Entry → ShelfContent → Type 0
HasRoom limit entries c = record_count c.records + fresh_in c.records entries ≤ limit

-- there was room, and the entries are held
pub record IsAccepted (office : OfficeRules) (limit : ℕ) (entries : List Entry) (old new : ShelfContent) (a : Accepted) : Type 0 where
  pub room : HasRoom limit entries old
  pub fresh : a.fresh ≡ fresh_in old.records entries
  pub repeated : a.repeated ≡ repeated_in old.records entries
  pub content : IsWithUpload office entries old new

-- held and fresh together are more than the limit, and nothing is changed
pub record IsFull (limit : ℕ) (entries : List Entry) (old new : ShelfContent) (held stated : ℕ) : Type 0 where
  pub over : limit < record_count old.records + fresh_in old.records entries
  pub held_is : held ≡ record_count old.records
  pub stated_is : stated ≡ limit
  pub content : new ≡ old

-- nothing is known of the content where an upload couldn't be taken back
abbrev pub IsPosted : OfficeRules → ℕ → List Entry → ShelfContent → ShelfContent → Result Accepted PostFault → Type 0
IsPosted office limit entries old new (Ok a) = IsAccepted office limit entries old new a
IsPosted office limit entries old new (Err (Full held stated)) = IsFull limit entries old new held stated
IsPosted office limit entries old new (Err Device) = new ≡ old
IsPosted office limit entries old new (Err Memory) = new ≡ old
IsPosted office limit entries old new (Err Reopen) = Unit {0}

-- ---- what a crash may leave
-- what could be left before, or the content with the whole upload, for which there was room
abbrev pub LeavesUpload : OfficeRules → ℕ → List Entry → ShelfContent → (ShelfContent → Type 0) → (ShelfContent → Type 0) → Type 0
LeavesUpload office limit entries content old new = (c : ShelfContent) → new c → old c ⊎ (HasRoom limit entries content × IsWithUpload office entries content c)

-- the content alone where the upload is accepted, what could be left before alone where the book is full
abbrev pub LeavesPosted : OfficeRules → ℕ → List Entry → ShelfContent → ShelfContent → (ShelfContent → Type 0) → (ShelfContent → Type 0) → Result Accepted PostFault → Type 0
LeavesPosted office limit entries old new old_left new_left (Ok a) = LeavesOnly new new_left
LeavesPosted office limit entries old new old_left new_left (Err (Full held stated)) = LeavesNoMore old_left new_left
LeavesPosted office limit entries old new old_left new_left (Err Device) = LeavesUpload office limit entries old old_left new_left
LeavesPosted office limit entries old new old_left new_left (Err Memory) = LeavesUpload office limit entries old old_left new_left
LeavesPosted office limit entries old new old_left new_left (Err Reopen) = LeavesUpload office limit entries old old_left new_left

-- behind an answer Ok the content alone, where the store has returned what was written
abbrev pub LeavesOnlyContent : {S T E : Type 0} → Ghosts S → Result T E → S → Type 0
LeavesOnlyContent shelf answer now = shelf.clean now → OnOk answer (LeavesOnly (shelf.state now).content (shelf.left now))

-- a true content of at most 10,000,000 entries of the office
pub record IsSoundContent (office : OfficeRules) (c : ShelfContent) : Type 0 where
  pub truth : IsTrueContent office c
  pub of_office : AllOfOffice office c.records
  pub few : length c.records ≤ most_records

-- where all that a crash could leave is sound, so is all that it may leave then
abbrev pub LeavesSound : OfficeRules → (ShelfContent → Type 0) → (ShelfContent → Type 0) → Type 0
LeavesSound office old new = ((c : ShelfContent) → old c → IsSoundContent office c) → (c : ShelfContent) → new c → IsSoundContent office c

-- how often `abandon` fails in it: once where it answers Reopen, unless the book was shut before
abbrev pub failed_in : Bool → Result Accepted PostFault → ℕ
failed_in false (Err Reopen) = 1
failed_in false (Err Memory) = 0
failed_in false (Err Device) = 0
failed_in false (Err (Full held stated)) = 0
failed_in false (Ok a) = 0
failed_in true answer = 0

-- ---- how many failures of the device are counted
-- one where it answers Device, none with `Full` and Memory; with Reopen what failed first and the `abandon` at most
abbrev pub FailuresWith : PostFault → ℕ → ℕ → Type 0
FailuresWith (Full held stated) old new = new ≡ old
FailuresWith Device old new = new ≡ old + 1
FailuresWith Memory old new = new ≡ old
FailuresWith Reopen old new = (old ≤ new) × (new ≤ old + 2)

-- none with Ok
abbrev pub FailuresPosted : {T : Type 0} → Result T PostFault → ℕ → ℕ → Type 0
FailuresPosted (Ok a) old new = new ≡ old
FailuresPosted (Err fault) old new = FailuresWith fault old new
