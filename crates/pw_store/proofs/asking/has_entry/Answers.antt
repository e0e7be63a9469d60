use Rattle.sqlite.specs.Held.{state}
use Rattle.pw_schema.proofs.Outcomes.{early}
use Rattle.pw_store.proofs.OneKind.{found_moved, no_foreign}
use Rattle.pw_store.proofs.asking.has_entry.Goals as goal

pub returns-in-Some-clause-found : goal.returns-in-Some-clause-found
returns-in-Some-clause-found g c clean =
    let before = early (state g.S.Store c.wake.new.conn) (state g.S.Store c.has_named.new.conn) c.has_named.ensures.asks.crash clean in
    found_moved c.has_named.result (state g.S.Store c.args.conn.now) (state g.S.Store c.wake.new.conn) c.args.entry.now _ (c.in_ok-wake.ensures.asks.same before) c.in-Some.ensures.some (c.has_named.ensures.found clean)

pub returns-in-None-clause-found : goal.returns-in-None-clause-found
returns-in-None-clause-found g c clean = no_foreign (state g.S.Store c.args.conn.now).now.trees c.args.entry.now c.in-None.ensures.none
