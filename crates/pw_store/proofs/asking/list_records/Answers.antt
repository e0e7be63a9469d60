use Rattle.std.proofs.Common.{List, IfOk, sym, subst}
use Rattle.sqlite.specs.Held.{state}
use Rattle.pw_model.specs.declared.records.Entry.{Entry}
use Rattle.pw_shelf.specs.Rows.{ListsAssignments, ListsHeld, ListsReadings, ListsTopUps, ListsWithdrawals}
use Rattle.pw_schema.specs.declared.kind.RecordKind.TheVariants.{TopUps}
use Rattle.pw_schema.proofs.Outcomes.{early}
use Rattle.pw_store.specs.Content.{records_of}
use Rattle.pw_store.specs.inner.Lists.{IsKeptAs, ListsThese}
use Rattle.pw_store.proofs.HeldKinds.{held_if, lists_topups}
use Rattle.pw_store.proofs.OneKind.{records_same}
use Rattle.pw_store.proofs.asking.list_records.Goals as goal

pub returns-in-Readings-clause-rows : goal.returns-in-Readings-clause-rows
returns-in-Readings-clause-rows g c clean =
    let before = early (state g.S.Store c.wake.new.conn) (state g.S.Store c.readings_kept.new.conn) c.readings_kept.ensures.asks.crash clean in
    let same = records_same (state g.S.Store c.args.conn.now) (state g.S.Store c.wake.new.conn) (c.in_ok-wake.ensures.asks.same before) in
    subst (λ w. IfOk c.readings_kept.result (λ found. ListsThese w (records_of (state g.S.Store c.args.conn.now).now.trees) found.items)) (sym c.in-Readings.is) (held_if (λ (records : List Entry) (found : List Entry). ListsReadings records c.in-Readings.meter c.in-Readings.register found) (λ (records : List Entry) (found : List Entry). ListsReadings records c.in-Readings.meter c.in-Readings.register found) (λ records found lists. lists) _ _ same c.readings_kept.result (c.readings_kept.ensures.rows clean))

pub returns-in-Assignments-clause-rows : goal.returns-in-Assignments-clause-rows
returns-in-Assignments-clause-rows g c clean =
    let before = early (state g.S.Store c.wake.new.conn) (state g.S.Store c.assignments_kept.new.conn) c.assignments_kept.ensures.asks.crash clean in
    let same = records_same (state g.S.Store c.args.conn.now) (state g.S.Store c.wake.new.conn) (c.in_ok-wake.ensures.asks.same before) in
    subst (λ w. IfOk c.assignments_kept.result (λ found. ListsThese w (records_of (state g.S.Store c.args.conn.now).now.trees) found.items)) (sym c.in-Assignments.is) (held_if (λ (records : List Entry) (found : List Entry). ListsAssignments records c.in-Assignments.meter found) (λ (records : List Entry) (found : List Entry). ListsAssignments records c.in-Assignments.meter found) (λ records found lists. lists) _ _ same c.assignments_kept.result (c.assignments_kept.ensures.rows clean))

pub returns-in-TopUps-clause-rows : goal.returns-in-TopUps-clause-rows
returns-in-TopUps-clause-rows g c clean =
    let before = early (state g.S.Store c.wake.new.conn) (state g.S.Store c.records_kept.new.conn) c.records_kept.ensures.asks.crash clean in
    let same = records_same (state g.S.Store c.args.conn.now) (state g.S.Store c.wake.new.conn) (c.in_ok-wake.ensures.asks.same before) in
    subst (λ w. IfOk c.records_kept.result (λ found. ListsThese w (records_of (state g.S.Store c.args.conn.now).now.trees) found.items)) (sym c.in-TopUps.is) (held_if (ListsHeld (IsKeptAs TopUps)) ListsTopUps lists_topups _ _ same c.records_kept.result (c.records_kept.ensures.rows clean))

pub returns-in-Withdrawals-clause-rows : goal.returns-in-Withdrawals-clause-rows
returns-in-Withdrawals-clause-rows g c clean =
    let before = early (state g.S.Store c.wake.new.conn) (state g.S.Store c.withdrawals_kept.new.conn) c.withdrawals_kept.ensures.asks.crash clean in
    let same = records_same (state g.S.Store c.args.conn.now) (state g.S.Store c.wake.new.conn) (c.in_ok-wake.ensures.asks.same before) in
    subst (λ w. IfOk c.withdrawals_kept.result (λ found. ListsThese w (records_of (state g.S.Store c.args.conn.now).now.trees) found.items)) (sym c.in-Withdrawals.is) (held_if ListsWithdrawals ListsWithdrawals (λ records found lists. lists) _ _ same c.withdrawals_kept.result (c.withdrawals_kept.ensures.rows clean))
