use Rattle.std.proofs.Common.{List, map, subst}
use Rattle.std.specs.List.Sorted.{IsPermutation}
use Rattle.sqlite.specs.Held.{state}
use Rattle.sqlite.specs.Order.{Row}
use Rattle.pw_store.specs.inner.Listings.{listed_tree}
use Rattle.pw_store.proofs.Checked.{are_numbered}
use Rattle.pw_store.proofs.sums.check_rowids.Goals as goal

pub returns-clause-numbered : goal.returns-clause-numbered
returns-clause-numbered g c clean =
    let table : List Row = (state g.S.Store c.args.conn.now).now.trees (listed_tree c.args.rowids) in
    let it = c.in_ok-judge_listing.ensures.took in
    are_numbered table it.0 (subst (λ show. IsPermutation (map show table) it.0) c.requires.shown (it.2 clean)) it.1.are
