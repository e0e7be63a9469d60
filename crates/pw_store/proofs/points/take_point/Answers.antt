use Rattle.std.proofs.Common.{false}
use Rattle.sqlite.specs.Held.{state}
use Rattle.pw_store.proofs.KeptTexts.{delete_point_text, delete_point_query, delete_point_is}
use Rattle.pw_store.proofs.Taking.{edits_if}
use Rattle.pw_store.proofs.PointRows.{takes_if}
use Rattle.pw_schema.proofs.Outcomes.{early}
use Rattle.pw_store.proofs.points.take_point.Goals as goal

pub returns-clause-done : goal.returns-clause-done
returns-clause-done g c clean =
    let before = early (state g.S.Store c.args.conn.now) (state g.S.Store c.execute.new.self) c.execute.ensures.survives clean in
    takes_if (state g.S.Store c.args.conn.now) (state g.S.Store c.execute.new.self) c.args.meter.0 c.args.register c.args.instant c.execute.result (c.requires.store before) (c.requires.inside before)
    (rw (c.integer.ensures, c.integer-2.ensures, c.integer-3.ensures, c.from.ensures, c.register_place.ensures.place, c.seconds.ensures.value) at (c.execute.ensures.runs clean))

pub returns-clause-writes : goal.returns-clause-writes
returns-clause-writes g c = edits_if false delete_point_text 4 delete_point_query delete_point_is (state g.S.Store c.args.conn.now) (state g.S.Store c.execute.new.self) _ c.execute.result (λ clean. (c.requires.store clean).ours) c.requires.inside c.execute.ensures.runs c.execute.ensures.survives
