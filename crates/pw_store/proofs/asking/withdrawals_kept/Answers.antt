use Rattle.std.proofs.Common.{◌∙◌, List, subst}
use Rattle.sqlite.specs.Held.{state}
use Rattle.pw_model.specs.declared.records.Entry.{Entry}
use Rattle.pw_shelf.specs.Rows.{ListsHeld}
use Rattle.pw_schema.specs.declared.kind.RecordKind.TheVariants.{WithdrawnAssignments, WithdrawnTopUps}
use Rattle.pw_schema.proofs.Outcomes.{early}
use Rattle.pw_store.specs.Content.{records_of}
use Rattle.pw_store.specs.inner.Lists.{IsKeptAs}
use Rattle.pw_store.proofs.HeldKinds.{withdrawals_if}
use Rattle.pw_store.proofs.OneKind.{records_same}
use Rattle.pw_store.proofs.asking.withdrawals_kept.Goals as goal

pub returns-clause-rows : goal.returns-clause-rows
returns-clause-rows g c clean =
    let old = state g.S.Store c.args.conn.now in
    let first = state g.S.Store c.records_kept.new.conn in
    let second = state g.S.Store c.records_kept-2.new.conn in
    let third = state g.S.Store c.records_kept-3.new.conn in
    let behind = early second third c.in_ok-topups.ensures.asks.crash clean in
    let before = early first second c.in_ok-assignments.ensures.asks.crash behind in
    let same = records_same old first (c.in_ok-readings.ensures.asks.same before) in
    let still = records_same first second (c.in_ok-assignments.ensures.asks.same behind) ∙ same in
    let P : List Entry → Type 0 = λ records. ListsHeld (IsKeptAs WithdrawnAssignments) records c.in_ok-assignments.assignments.items in
    let Q : List Entry → Type 0 = λ records. ListsHeld (IsKeptAs WithdrawnTopUps) records c.in_ok-topups.topups.items in
    withdrawals_if (records_of old.now.trees) c.in_ok-readings.readings.items c.in_ok-assignments.assignments.items c.in_ok-topups.topups.items c.in_a_row.result
    (c.in_ok-readings.ensures.rows before) (subst P same (c.in_ok-assignments.ensures.rows behind)) (subst Q still (c.in_ok-topups.ensures.rows clean))
    (rw (c.deref.ensures.value, c.deref-2.ensures.value) at c.in_a_row.ensures)
