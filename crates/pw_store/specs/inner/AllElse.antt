-- What a change within an upload leaves of a store. It serves `src/upload.rt`.
-- (Definitions of this project.)
use Rattle.std.specs.Prelude.{◌≡◌, ◌+◌, Result}
use Rattle.sqlite_trees.specs.declared.store.Store.{Ghosts}
use Rattle.sqlite.specs.Held.{state}
use Rattle.sqlite.specs.State.{HasCleanDisk}
use Rattle.pw_shelf.specs.declared.fault.ShelfFault.{ShelfFault}
use Rattle.pw_shelf.specs.Calls.{failures_told}
use Rattle.pw_shelf.specs.Left.{LeavesNoMore}
use Rattle.pw_store.specs.declared.shelf.SqlShelf.{SqlShelf}
use Rattle.pw_store.specs.Kept.{left_of}

-- but for what it holds the upload goes on as it was; a failure of the device is counted, and a crash may leave no more
pub record KeepsElse {S X : Type 0} (store : Ghosts S) (answer : Result X ShelfFault) (old new : SqlShelf S store) : Type 0 where
  pub begun : new.begun ≡ old.begun
  pub base : new.base.value ≡ old.base.value
  pub opened : new.opened.value ≡ old.opened.value
  pub failures : new.failures.count ≡ old.failures.count + failures_told answer
  pub abandons : new.failed_abandons.count ≡ old.failed_abandons.count
  pub tally : new.tally.count ≡ old.tally.count
  pub left : HasCleanDisk (state store new.conn) → LeavesNoMore (left_of (state store old.conn)) (left_of (state store new.conn))
  pub clean : HasCleanDisk (state store new.conn) → HasCleanDisk (state store old.conn)
