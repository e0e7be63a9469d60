use Rattle.sqlite.specs.Held.{state}
use Rattle.pw_store.specs.inner.Seconds.{nearest_text}
use Rattle.pw_store.proofs.Querying.{asks_if}
use Rattle.pw_store.proofs.Neighbours.{nearest_if, nearest_plain}
use Rattle.pw_schema.proofs.Outcomes.{early}
use Rattle.pw_store.proofs.points.nearest_rows.Goals as goal

pub returns-clause-row : goal.returns-clause-row
returns-clause-row g c clean =
    let before = early (state g.S.Store c.args.conn.now) (state g.S.Store c.query_all.new.self) c.query_all.ensures.survives clean in
    nearest_if c.args.side.now (state g.S.Store c.args.conn.now) (state g.S.Store c.query_all.new.self) c.args.meter.0 c.args.register c.query_all.result (c.requires.store before)
    (rw (c.text.ensures, c.integer.ensures, c.integer-2.ensures, c.integer-3.ensures, c.from.ensures, c.register_place.ensures.place, c.seconds.ensures.value, c.instant-instant.ensures) at (c.query_all.ensures.ok clean))

pub returns-clause-asks : goal.returns-clause-asks
returns-clause-asks g c =
    let is = c.text.ensures in
    asks_if (nearest_text c.args.side.now) _ (state g.S.Store c.args.conn.now) (state g.S.Store c.query_all.new.self) c.query_all.result (λ clean. nearest_plain c.args.side.now _ (c.requires.store clean).ours)
    (rw is at c.query_all.ensures.ok) (rw is at c.query_all.ensures.err) (rw is at c.query_all.ensures.survives)
