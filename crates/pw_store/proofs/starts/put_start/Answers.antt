use Rattle.sqlite.specs.Held.{state}
use Rattle.pw_store.proofs.Texts.{three_terms}
use Rattle.pw_store.proofs.KeptTexts.{insert_start_text, insert_start_is}
use Rattle.pw_store.proofs.Adding.{inserts_if}
use Rattle.pw_store.proofs.StartRows.{puts_if}
use Rattle.pw_schema.proofs.Outcomes.{early}
use Rattle.pw_store.proofs.starts.put_start.Goals as goal

pub returns-clause-done : goal.returns-clause-done
returns-clause-done g c clean =
    let before = early (state g.S.Store c.args.conn.now) (state g.S.Store c.execute.new.self) c.execute.ensures.survives clean in
    puts_if (state g.S.Store c.args.conn.now) (state g.S.Store c.execute.new.self) c.args.meter.0 c.args.start c.args.owner c.execute.result (c.requires.store before) (c.requires.inside before) (c.requires.free before)
    (rw (c.integer.ensures, c.integer-2.ensures, c.integer-3.ensures, c.from.ensures, c.seconds.ensures.value, c.owner_place.ensures) at (c.execute.ensures.runs clean))

pub returns-clause-writes : goal.returns-clause-writes
returns-clause-writes g c = inserts_if insert_start_text 5 4 three_terms insert_start_is (state g.S.Store c.args.conn.now) (state g.S.Store c.execute.new.self) _ c.execute.result (λ clean. (c.requires.store clean).ours) c.requires.inside c.execute.ensures.runs c.execute.ensures.survives
