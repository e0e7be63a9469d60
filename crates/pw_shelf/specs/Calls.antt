-- What the calls of a shelf have in common. Of a shelf it is known how it stands, what a crash may leave of it, and
-- whether it has returned what was written to it, and when it is the same store still.
-- (Definitions of this project.)
use Rattle.std.specs.Prelude.{◌≡◌, ◌+◌, ℕ, None, Result, Ok, Err, OnOk, OnErr}
use Rattle.pw_model.specs.Shelf.{ShelfContent}
use Rattle.pw_shelf.specs.declared.fault.ShelfFault.{ShelfFault}
use Rattle.pw_shelf.specs.declared.fault.ShelfFault.TheVariants.{Memory, Device}
use Rattle.pw_shelf.specs.Left.{LeavesNoMore}
use Rattle.pw_shelf.specs.Rows.{rows_given}
use Rattle.pw_shelf.specs.State.{State, CountsFailures, KeepsUpload}

-- ---- how many failures of the device an answer tells
-- one where it is the device's
abbrev pub failures_in : ShelfFault → ℕ
failures_in Memory = 0
failures_in Device = 1

-- none with Ok
abbrev pub failures_told : {T : Type 0} → Result T ShelfFault → ℕ
failures_told (Ok answer) = 0
failures_told (Err fault) = failures_in fault

-- ---- what is as it was, and what is counted
module _ {S : Type 0} (state : S → State) (leaves : S → ShelfContent → Type 0) (is_clean : S → Type 0) (is_same : S → S → Type 0) where
  -- calls that neither begin nor end an upload, and tell so many failures of the device: a crash leaves no more than
  -- before them; that is known where the store has returned what was written, and it had done so before; and it is the
  -- same store still
  pub record GoesOn (told : ℕ) (old new : S) : Type 0 where
    pub upload : KeepsUpload (state old) (state new)
    pub counts : CountsFailures told (state old) (state new)
    pub left : is_clean new → LeavesNoMore (leaves old) (leaves new)
    pub clean : is_clean new → is_clean old
    pub store : is_same old new

  -- a call that asks: with an answer the content is as before, outside an upload with a fault too
  pub record IsAsking {T : Type 0} (rows : T → ℕ) (answer : Result T ShelfFault) (old new : S) : Type 0 where
    pub same : is_clean new → OnOk answer ((state new).content ≡ (state old).content)
    pub failed : is_clean new → OnErr answer ((state old).begun ≡ None → (state new).content ≡ (state old).content)
    pub tally : (state new).tally ≡ (state old).tally + 1 + rows_given rows answer
    pub kept : GoesOn (failures_told answer) old new

  -- a call that writes
  pub record IsWriting {T : Type 0} (answer : Result T ShelfFault) (old new : S) : Type 0 where
    pub tally : (state new).tally ≡ (state old).tally + 1
    pub kept : GoesOn (failures_told answer) old new
