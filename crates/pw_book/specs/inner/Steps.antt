-- What the functions of a book ask of a store, and what they leave of it. It serves `src/assignments.rt`,
-- `src/balances.rt`, `src/disputes.rt`, `src/effect.rt`, `src/energies.rt`, `src/falls.rt`, `src/gathered.rt`,
-- `src/moving.rt`, `src/posting.rt`, `src/reading_change.rt`, `src/settling.rt`, `src/start_change.rt` and
-- `src/upload.rt`.
-- (Definitions of this project.)
use Rattle.std.specs.Prelude.{◌≡◌, ℕ, ◌+◌, ◌≤◌, List, Result, OnOk, OnErr, length}
use Rattle.pw_obis.specs.declared.reference.Register.{Register}
use Rattle.pw_tariff.specs.Office.{OfficeFile, office_of}
use Rattle.pw_model.specs.declared.records.Entry.{Entry}
use Rattle.pw_model.specs.Office.{AllOfOffice}
use Rattle.pw_model.specs.Shelf.{IsTrueContent}
use Rattle.pw_shelf.specs.Calls.{GoesOn, failures_told}
use Rattle.pw_shelf.specs.State.{IsWithRecord}
use Rattle.pw_shelf.specs.declared.fault.ShelfFault.{ShelfFault}
use Rattle.pw_shelf.specs.declared.shelf.Shelf.{Ghosts}
use Rattle.pw_book.specs.Cost.{HasStarts}
use Rattle.pw_book.specs.Posting.{IsWithUpload}
use Rattle.pw_book.specs.declared.gathered.KnownStarts.{KnownStarts}
use Rattle.pw_book.specs.declared.start_change.Window.{Window}
use Rattle.pw_book.specs.inner.Added.{CostsAtMost, LeavesWithUpload, MayBeAdded}
use Rattle.pw_book.specs.inner.Gathered.{AreKnown}
use Rattle.pw_book.specs.inner.Settling.{EndsBeforeNext, ListsUpToNextStart}

-- All but the first are said of a store that has returned what was written.
module _ {S : Type 0} (shelf : Ghosts S) where
  -- a step with this answer neither begins nor ends an upload, and counts the failures that it tells
  abbrev pub UploadGoesOn : {T : Type 0} → Result T ShelfFault → S → S → Type 0
  UploadGoesOn answer old new = GoesOn shelf.state shelf.left shelf.clean shelf.same_store (failures_told answer) old new

  -- ---- what is held
  -- all records are of the office
  abbrev pub HoldsOffice : OfficeFile → S → Type 0
  HoldsOffice file now = shelf.clean now → AllOfOffice (office_of file) (shelf.state now).content.records

  -- the content is true
  abbrev pub HasTrueContent : OfficeFile → S → Type 0
  HasTrueContent file now = shelf.clean now → IsTrueContent (office_of file) (shelf.state now).content

  -- the starts that are known are those that it keeps
  abbrev pub KeepsKnown : KnownStarts → S → Type 0
  KeepsKnown known now = shelf.clean now → AreKnown (shelf.state now).content.start known

  -- so they are behind an answer Ok
  abbrev pub StillKeepsKnown : {T : Type 0} → Result T ShelfFault → KnownStarts → S → Type 0
  StillKeepsKnown answer known now = shelf.clean now → OnOk answer (AreKnown (shelf.state now).content.start known)

  -- ---- what an answer Ok leaves
  -- the content as it was
  abbrev pub KeepsContent : {T : Type 0} → Result T ShelfFault → S → S → Type 0
  KeepsContent answer old new = shelf.clean new → OnOk answer ((shelf.state new).content ≡ (shelf.state old).content)

  -- the content with a record more
  abbrev pub AddsRecord : {T : Type 0} → Result T ShelfFault → Entry → S → S → Type 0
  AddsRecord answer e old new = shelf.clean new → OnOk answer (IsWithRecord (shelf.state old).content e (shelf.state new).content)

  -- ---- an upload
  module _ (file : OfficeFile) (entries : List Entry) where
    -- its entries may be added
    abbrev pub MayAdd : S → Type 0
    MayAdd now = shelf.clean now → MayBeAdded (office_of file) entries (shelf.state now).content

    -- with Ok the content is the one with all of it
    abbrev pub HoldsAll : {T E : Type 0} → Result T E → S → S → Type 0
    HoldsAll answer old new = shelf.clean new →
        OnOk answer (IsWithUpload (office_of file) entries (shelf.state old).content (shelf.state new).content)

    -- with a fault a crash leaves what it could leave before, or the whole of it
    abbrev pub LeavesWhole : {T E : Type 0} → Result T E → S → S → Type 0
    LeavesWhole answer old new = shelf.clean new →
        OnErr answer (LeavesWithUpload (office_of file) entries (shelf.state old).content (shelf.left old) (shelf.left new))

    -- how many calls and rows it takes, beside so many
    abbrev pub TakesUpload : ℕ → S → S → Type 0
    TakesUpload beside old new = shelf.clean new →
        CostsAtMost beside (office_of file) entries (shelf.state old).content (shelf.state old).tally (shelf.state new).tally

  -- ---- how many calls and rows a step takes, beside so many
  -- one for each counting start of a meter
  abbrev pub TakesStarts : ℕ → ℕ → S → S → Type 0
  TakesStarts beside m old new = shelf.clean new → (starts : ℕ) → HasStarts (shelf.state old).content m starts →
      (shelf.state new).tally ≤ (shelf.state old).tally + (beside + starts)

  -- one for each point of a register in a window that ends before the meter's next start
  abbrev pub TakesPoints : ℕ → Window → Register → S → S → Type 0
  TakesPoints beside window r old new = shelf.clean new → (most : ℕ) →
      EndsBeforeNext ((shelf.state old).content.start window.meter.0) window.from window.until →
      ((points : List (ℕ × ℕ)) → ListsUpToNextStart (shelf.state old).content window.meter.0 r window.from points → length points ≤ most) →
      (shelf.state new).tally ≤ (shelf.state old).tally + beside + most
