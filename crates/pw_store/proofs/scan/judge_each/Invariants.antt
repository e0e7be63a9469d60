use Rattle.std.proofs.Common.{◌≡◌, [], List}
use Rattle.sqlite.specs.Order.{Row}
use Rattle.sqlite.specs.State.{HasCleanDisk, IsUnchanged, Survives}
use Rattle.sqlite.specs.Held.{state}
use Rattle.sqlite.specs.Given.{HasGiven}
use Rattle.pw_store.proofs.scan.judge_each.Given as goal

abbrev pub invariant-loop-count : goal.invariant-loop-count
invariant-loop-count g l =
    let old = state g.S.Store l.fn.conn in
    let now = state g.S.Store l.rows.conn.now in
    (l.rows.conn.ghost_name ≡ l.initial.rows.conn.ghost_name) × Survives old now (λ _. ⊥) × ((given : List Row) × g.J.Judge.took l.fn.judge given l.judge × (HasCleanDisk now → HasGiven g.S.Store l.text [] l.rows.conn.now given × IsUnchanged old now))
