use Rattle.sqlite.specs.Held.{state}
use Rattle.pw_schema.proofs.Outcomes.{early}
use Rattle.pw_store.specs.Content.{point_in, point_tree}
use Rattle.pw_store.specs.inner.Seconds.{point_told}
use Rattle.std.proofs.Common.{◌≡◌, ◌≤◌, Some}
use Rattle.pw_store.proofs.InTurn.{trees_same, list_if, lists_within}
use Rattle.pw_store.proofs.questions.points_between.Goals as goal

pub returns-clause-rows : goal.returns-clause-rows
returns-clause-rows g c clean =
    let before = early (state g.S.Store c.wake.new.conn) (state g.S.Store c.between_rows.new.conn) c.in_ok-rows.ensures.asks.crash clean in
    let same = trees_same (state g.S.Store c.args.conn.now) (state g.S.Store c.wake.new.conn) (c.in_ok-wake.ensures.asks.same before) in
    lists_within c.read_points.result c.args.from c.args.to _ (list_if c.read_points.result point_told (λ db x. (c.args.from ≤ x.0) × (x.0 ≤ c.args.to) × (point_in (db point_tree) c.args.meter.0 c.args.register x.0 ≡ Some x.1)) _ _ c.as_slice.result.now c.in_ok-rows.rows.items c.as_slice.ensures.value same (c.in_ok-rows.ensures.rows clean) c.read_points.ensures.told c.read_points.ensures.rising)
