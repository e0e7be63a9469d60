use Rattle.std.proofs.Common.{[]}
use Rattle.std.specs.List.Sorted.{IsPermutation}
use Rattle.sqlite.specs.Held.{state}
use Rattle.sqlite.specs.State.{Shown}
use Rattle.pw_store.specs.Opening.{offices}
use Rattle.pw_store.proofs.Texts.{office_text}
use Rattle.pw_store.proofs.Querying.{asks_if}
use Rattle.pw_store.proofs.Lists.{if_ok}
use Rattle.pw_store.proofs.OfficeFirst.{first_plain, shows_office}
use Rattle.pw_schema.proofs.Outcomes.{early}
use Rattle.pw_store.proofs.office.office_rows.Goals as goal

pub returns-clause-rows : goal.returns-clause-rows
returns-clause-rows g c clean =
    let before = early (state g.S.Store c.args.conn.now) (state g.S.Store c.query_all.new.self) c.query_all.ensures.survives clean in
    if_ok (Shown office_text [] (state g.S.Store c.args.conn.now) (state g.S.Store c.query_all.new.self)) (IsPermutation (offices (state g.S.Store c.args.conn.now).now.trees)) (λ rows h. shows_office (state g.S.Store c.args.conn.now) (state g.S.Store c.query_all.new.self) rows (c.requires.begun before) h) c.query_all.result (c.query_all.ensures.ok clean)

pub returns-clause-asks : goal.returns-clause-asks
returns-clause-asks g c = asks_if office_text [] (state g.S.Store c.args.conn.now) (state g.S.Store c.query_all.new.self) c.query_all.result (λ clean. first_plain _ (c.requires.begun clean)) c.query_all.ensures.ok c.query_all.ensures.err c.query_all.ensures.survives
