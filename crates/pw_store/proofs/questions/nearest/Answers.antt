use Rattle.std.proofs.Common.{ap, sym, subst, ◌∙◌}
use Rattle.sqlite.specs.Held.{state}
use Rattle.sqlite.specs.Tree.{Trees}
use Rattle.pw_schema.proofs.Outcomes.{early}
use Rattle.pw_store.specs.Content.{point_in, point_tree}
use Rattle.pw_store.specs.inner.Seconds.{IsNearest, first_point}
use Rattle.pw_store.proofs.InTurn.{trees_same}
use Rattle.pw_store.proofs.questions.nearest.Goals as goal

pub returns-clause-row : goal.returns-clause-row
returns-clause-row g c clean =
    let before = early (state g.S.Store c.wake.new.conn) (state g.S.Store c.nearest_rows.new.conn) c.in_ok-rows.ensures.asks.crash clean in
    let same = trees_same (state g.S.Store c.args.conn.now) (state g.S.Store c.wake.new.conn) (c.in_ok-wake.ensures.asks.same before) in
    let points = point_in ((state g.S.Store c.args.conn.now).now.trees point_tree) in
    let told = subst (λ (db : Trees). IsNearest c.args.side (point_in (db point_tree) c.args.meter.0 c.args.register) (first_point c.in_ok-rows.rows.items)) same (c.in_ok-rows.ensures.row clean) in
    c.nearest_of.ensures points (subst (IsNearest c.args.side (points c.args.meter.0 c.args.register)) (sym (c.in_ok-written.ensures ∙ ap first_point c.as_slice.ensures.value)) told)
