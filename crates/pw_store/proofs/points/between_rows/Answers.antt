use Rattle.sqlite.specs.Held.{state}
use Rattle.pw_store.proofs.KeptTexts.{between_text, between_is}
use Rattle.pw_store.proofs.Querying.{ours_plain, asks_if}
use Rattle.pw_store.proofs.Neighbours.{between_if}
use Rattle.pw_schema.proofs.Outcomes.{early}
use Rattle.pw_store.proofs.points.between_rows.Goals as goal

pub returns-clause-rows : goal.returns-clause-rows
returns-clause-rows g c clean =
    let before = early (state g.S.Store c.args.conn.now) (state g.S.Store c.query_all.new.self) c.query_all.ensures.survives clean in
    between_if (state g.S.Store c.args.conn.now) (state g.S.Store c.query_all.new.self) c.args.meter.0 c.args.register c.args.from c.args.to c.query_all.result (c.requires.store before)
    (rw (c.integer.ensures, c.integer-2.ensures, c.integer-3.ensures, c.integer-4.ensures, c.from.ensures, c.register_place.ensures.place, c.seconds.ensures.value, c.seconds-2.ensures.value) at (c.query_all.ensures.ok clean))

pub returns-clause-asks : goal.returns-clause-asks
returns-clause-asks g c = asks_if between_text _ (state g.S.Store c.args.conn.now) (state g.S.Store c.query_all.new.self) c.query_all.result (λ clean. ours_plain between_is _ (c.requires.store clean).ours) c.query_all.ensures.ok c.query_all.ensures.err c.query_all.ensures.survives
