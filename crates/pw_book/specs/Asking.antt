-- What asking a shelf leaves as it is.
-- (Definitions of this project.)
use Rattle.std.specs.Prelude.{◌≡◌, ℕ}
use Rattle.pw_shelf.specs.Calls.{GoesOn}
use Rattle.pw_shelf.specs.declared.shelf.Shelf.{Ghosts}

module _ {S : Type 0} (shelf : Ghosts S) where
  -- calls outside an upload that ask, and tell so many failures of the device: whatever they answer, the content is as
  -- before
  pub record IsOnlyAsked (told : ℕ) (old new : S) : Type 0 where
    pub content : shelf.clean new → (shelf.state new).content ≡ (shelf.state old).content
    pub kept : GoesOn shelf.state shelf.left shelf.clean shelf.same_store told old new
