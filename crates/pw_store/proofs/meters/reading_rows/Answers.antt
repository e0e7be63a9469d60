use Rattle.sqlite.specs.Held.{state}
use Rattle.pw_store.proofs.Texts.{list_readings_text, list_readings_is}
use Rattle.pw_store.proofs.Querying.{ours_plain, asks_if}
use Rattle.pw_store.proofs.OfMeter.{shows_readings_if}
use Rattle.pw_schema.proofs.Outcomes.{early}
use Rattle.pw_store.proofs.meters.reading_rows.Goals as goal

pub returns-clause-rows : goal.returns-clause-rows
returns-clause-rows g c clean =
    let before = early (state g.S.Store c.args.conn.now) (state g.S.Store c.query_all.new.self) c.query_all.ensures.survives clean in
    shows_readings_if c.args.meter c.args.register (state g.S.Store c.args.conn.now) (state g.S.Store c.query_all.new.self) c.query_all.result (c.requires.store before)
    (rw (c.integer.ensures, c.integer-2.ensures, c.from.ensures, c.register_place.ensures.place) at (c.query_all.ensures.ok clean))

pub returns-clause-asks : goal.returns-clause-asks
returns-clause-asks g c = asks_if list_readings_text _ (state g.S.Store c.args.conn.now) (state g.S.Store c.query_all.new.self) c.query_all.result (λ clean. ours_plain list_readings_is _ (c.requires.store clean).ours) c.query_all.ensures.ok c.query_all.ensures.err c.query_all.ensures.survives
