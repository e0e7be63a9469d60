use Rattle.sqlite.specs.Held.{state}
use Rattle.sqlite.specs.State.{HasCleanDisk, KeepsCommit, Survives}
use Rattle.pw_schema.specs.inner.Stages.{IsMaking, stage}
use Rattle.pw_schema.proofs.make.make_all.Given as goal

abbrev pub invariant-loop-table : goal.invariant-loop-table
invariant-loop-table g l = record {
  making : HasCleanDisk (state g.S.Store l.conn) → IsMaking (stage l.table-index) (state g.S.Store l.conn);
  kept : HasCleanDisk (state g.S.Store l.conn) → KeepsCommit (state g.S.Store l.initial.conn) (state g.S.Store l.conn);
  crash : Survives (state g.S.Store l.initial.conn) (state g.S.Store l.conn) (λ _. ⊥);
}
