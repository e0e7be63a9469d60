use Rattle.std.proofs.Common.{[]}
use Rattle.sqlite.specs.Held.{state}
use Rattle.sqlite.specs.State.{HasCleanDisk, Shown}
use Rattle.pw_schema.proofs.Outcomes.{early}
use Rattle.pw_store.specs.inner.Listings.{ShowsAll, text_of}
use Rattle.pw_store.proofs.Listed.{is_query, shows_all}
use Rattle.pw_store.proofs.Scanning.{ours_one, taken_if}
use Rattle.pw_store.proofs.listings.judge_listing.Goals as goal

pub judge_each-requires-clause-query : goal.judge_each-requires-clause-query
judge_each-requires-clause-query g c clean = rw c.text.ensures (ours_one (is_query c.args.listing) _ (c.requires.ours clean))

pub returns-clause-took : goal.returns-clause-took
returns-clause-took g c =
    let old = state g.S.Store c.args.conn.now in
    let new = state g.S.Store c.judge_each.new.conn in
    let l = c.args.listing in
    taken_if g.J.Judge.took (λ rows. HasCleanDisk new → Shown (text_of l) [] old new rows) (λ rows. HasCleanDisk new → ShowsAll l old.now.trees rows) c.args.judge.now c.judge_each.new.judge c.judge_each.result
    (λ rows h clean. shows_all l old new rows (c.requires.ours (early old new c.judge_each.ensures.looks.crash clean)) (h clean)) (rw c.text.ensures at c.judge_each.ensures.took)

pub returns-clause-refused : goal.returns-clause-refused
returns-clause-refused g c clean is =
    let old = state g.S.Store c.args.conn.now in
    let new = state g.S.Store c.judge_each.new.conn in
    let it = (rw c.text.ensures at c.judge_each.ensures.refused) clean is in
    (it.0, it.1, shows_all c.args.listing old new it.0 (c.requires.ours (early old new c.judge_each.ensures.looks.crash clean)) it.2)
