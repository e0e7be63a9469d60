use Rattle.std.proofs.Common.{[]}
use Rattle.sqlite.specs.Held.{state}
use Rattle.sqlite.specs.State.{Shown}
use Rattle.pw_store.specs.declared.listings.Listing.TheVariants.{Records}
use Rattle.pw_store.specs.inner.Listings.{ShowsAll, text_of}
use Rattle.pw_store.proofs.Listed.{is_query, shows_all}
use Rattle.pw_store.proofs.Lists.{if_ok}
use Rattle.pw_store.proofs.Querying.{ours_plain, asks_if}
use Rattle.pw_schema.proofs.Outcomes.{early}
use Rattle.pw_store.proofs.listings.record_rows.Goals as goal

pub returns-clause-rows : goal.returns-clause-rows
returns-clause-rows g c clean =
    let old = state g.S.Store c.args.conn.now in
    let new = state g.S.Store c.query_all.new.self in
    let before = early old new c.query_all.ensures.survives clean in
    if_ok (Shown (text_of (Records c.args.kind)) [] old new) (ShowsAll (Records c.args.kind) old.now.trees) (λ rows h. shows_all (Records c.args.kind) old new rows (c.requires.ours before) h) c.query_all.result (rw c.text.ensures at (c.query_all.ensures.ok clean))

pub returns-clause-asks : goal.returns-clause-asks
returns-clause-asks g c =
    asks_if (text_of (Records c.args.kind)) [] (state g.S.Store c.args.conn.now) (state g.S.Store c.query_all.new.self) c.query_all.result (λ clean. ours_plain (is_query (Records c.args.kind)) _ (c.requires.ours clean))
    (rw c.text.ensures at c.query_all.ensures.ok) (rw c.text.ensures at c.query_all.ensures.err) (rw c.text.ensures at c.query_all.ensures.survives)
