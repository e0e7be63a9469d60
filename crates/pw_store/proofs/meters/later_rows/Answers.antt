use Rattle.sqlite.specs.Held.{state}
use Rattle.pw_schema.proofs.Outcomes.{early}
use Rattle.pw_store.proofs.Beyond.{later_is, later_text, none_later_if}
use Rattle.pw_store.proofs.Querying.{asks_if, ours_plain}
use Rattle.pw_store.proofs.meters.later_rows.Goals as goal

pub returns-clause-none : goal.returns-clause-none
returns-clause-none g c clean =
    let old = state g.S.Store c.args.conn.now in
    let new = state g.S.Store c.query_all.new.self in
    let before = early old new c.query_all.ensures.survives clean in
    none_later_if old new c.args.meter c.args.register c.args.from c.query_all.result (c.requires.store before)
    (rw (c.integer.ensures, c.integer-2.ensures, c.integer-3.ensures, c.from.ensures, c.register_place.ensures.place, c.seconds.ensures.value) at (c.query_all.ensures.ok clean))

pub returns-clause-asks : goal.returns-clause-asks
returns-clause-asks g c =
    asks_if later_text _ (state g.S.Store c.args.conn.now) (state g.S.Store c.query_all.new.self) c.query_all.result (λ clean. ours_plain later_is _ (c.requires.store clean).ours)
    c.query_all.ensures.ok c.query_all.ensures.err c.query_all.ensures.survives
