use Rattle.std.proofs.Common.{◌≡◌, List, []}
use Rattle.sqlite.specs.Held.{state}
use Rattle.sqlite.specs.Order.{Row}
use Rattle.pw_store.specs.Content.{total_tree}
use Rattle.pw_store.specs.inner.Sums.{shown_id}
use Rattle.pw_store.proofs.NoneListed.{none_listed, none_shown}
use Rattle.pw_store.proofs.Scanning.{refuses_unless}
use Rattle.pw_store.proofs.Passed.{passed}
use Rattle.pw_store.specs.inner.Opened.{RefusesUnless}
use Rattle.pw_store.proofs.sums.check_old_totals.Goals as goal

pub returns-clause-none : goal.returns-clause-none
returns-clause-none g c clean =
    let table : List Row = (state g.S.Store c.args.conn.now).now.trees total_tree in
    let it = c.in_ok-judge_listing.ensures.took in
    none_listed shown_id table it.0 (it.2 clean) it.1

pub returns-in_err-judge_listing-clause-cause : goal.returns-in_err-judge_listing-clause-cause
returns-in_err-judge_listing-clause-cause g c clean =
    let table : List Row = (state g.S.Store c.args.conn.now).now.trees total_tree in
    passed c.from_residual.result (RefusesUnless (table ≡ [])) c.from_residual.ensures.1 (refuses_unless (table ≡ []) c.in_err-judge_listing.field-0.0 c.in_err-judge_listing.ensures.others (λ is none. (let it = c.in_err-judge_listing.ensures.refused clean is in it.1 (none_shown shown_id table it.0 it.2 none))))
