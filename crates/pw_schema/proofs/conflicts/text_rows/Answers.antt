use Rattle.std.proofs.Common.{[]}
use Rattle.sqlite.specs.Held.{state}
use Rattle.sqlite.specs.State.{Shown}
use Rattle.pw_schema.specs.inner.Listed.{ShowsTexts}
use Rattle.pw_schema.proofs.Conflicting.{if_ok}
use Rattle.pw_schema.proofs.Listed.{texts_text, known_plain, shows_texts}
use Rattle.pw_schema.proofs.Outcomes.{early}
use Rattle.pw_schema.proofs.Queries.{asks_if}
use Rattle.pw_schema.proofs.conflicts.text_rows.Goals as goal

pub returns-clause-rows : goal.returns-clause-rows
returns-clause-rows g c clean =
    let old = state g.S.Store c.args.conn.now in
    let new = state g.S.Store c.query_all.new.self in
    if_ok (Shown texts_text [] old new) (ShowsTexts old.now.trees) (λ rows h. shows_texts old new rows (c.requires.known (early old new c.query_all.ensures.survives clean)) h) c.query_all.result (c.query_all.ensures.ok clean)

pub returns-clause-asks : goal.returns-clause-asks
returns-clause-asks g c =
    asks_if texts_text [] (state g.S.Store c.args.conn.now) (state g.S.Store c.query_all.new.self) c.query_all.result (λ clean. known_plain _ (c.requires.known clean)) c.query_all.ensures.ok c.query_all.ensures.err c.query_all.ensures.survives
