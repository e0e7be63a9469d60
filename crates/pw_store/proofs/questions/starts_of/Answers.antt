use Rattle.sqlite.specs.Held.{state}
use Rattle.pw_schema.proofs.Outcomes.{early}
use Rattle.pw_store.specs.Content.{start_in, start_tree}
use Rattle.pw_store.specs.inner.Seconds.{start_told}
use Rattle.std.proofs.Common.{◌≡◌, Some}
use Rattle.pw_store.proofs.InTurn.{trees_same, list_if, lists_seconds}
use Rattle.pw_store.proofs.questions.starts_of.Goals as goal

pub returns-clause-rows : goal.returns-clause-rows
returns-clause-rows g c clean =
    let before = early (state g.S.Store c.wake.new.conn) (state g.S.Store c.start_rows.new.conn) c.in_ok-rows.ensures.asks.crash clean in
    let same = trees_same (state g.S.Store c.args.conn.now) (state g.S.Store c.wake.new.conn) (c.in_ok-wake.ensures.asks.same before) in
    lists_seconds c.read_starts.result _ (list_if c.read_starts.result start_told (λ db x. start_in (db start_tree) c.args.meter.0 x.0 ≡ Some x.1) _ _ c.as_slice.result.now c.in_ok-rows.rows.items c.as_slice.ensures.value same (c.in_ok-rows.ensures.rows clean) c.read_starts.ensures.told c.read_starts.ensures.rising)
