use Rattle.std.proofs.Common.{◌≡◌, take, true, Ok}
use Rattle.sqlite.specs.Held.{state}
use Rattle.sqlite.specs.State.{HasCleanDisk}
use Rattle.pw_store.specs.Kept.{written_of}
use Rattle.pw_store.specs.Waiting.{with_waiting}
use Rattle.pw_store.specs.inner.AllElse.{KeepsElse}
use Rattle.pw_store.proofs.shelf.SqlShelf.write_each.Given as goal

abbrev pub invariant-loop-point : goal.invariant-loop-point
invariant-loop-point g l =
    let store = g.S.Store in
    let old = l.fn.self in
    let now = l.self in
    record {
      begun : now.begun ≡ true;
      written : HasCleanDisk (state store now.conn) → written_of (state store now.conn) (state store now.base.value) ≡ with_waiting (take l.point-index l.points) (written_of (state store old.conn) (state store old.base.value));
      waits : now.waiting ≡ old.waiting;
      else : KeepsElse {X = Unit {0}} store (Ok tt) old now;
    }
