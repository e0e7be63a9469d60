use Rattle.std.proofs.Common.{rules}
use Rattle.sqlite.specs.Held.{state}
use Rattle.pw_store.proofs.Counted.{inside_counted, outside_counted}
use Rattle.pw_store.proofs.Inside.{mode_is}
use Rattle.pw_store.proofs.shelf.SqlShelf.number_held.Goals as goal

pub returns-then-is_autocommit-clause-number : goal.returns-then-is_autocommit-clause-number
returns-then-is_autocommit-clause-number g c clean =
    let self = c.args.self.now in
    outside_counted (state g.S.Store self.conn) (state g.S.Store self.base.value) self.held self.since self.base_counted (c.is_autocommit.ensures.settled c.if-is_autocommit.true) clean

pub returns-clause-number : goal.returns-clause-number
returns-clause-number g c clean =
    let self = c.args.self.now in
    inside_counted (state g.S.Store self.conn) (state g.S.Store self.base.value) self.within self.inside self.frontier self.now_known (mode_is _ _ c.if-is_autocommit.false c.is_autocommit.ensures.value) clean

pub returns-then-is_autocommit-clause-tally : goal.returns-then-is_autocommit-clause-tally
returns-then-is_autocommit-clause-tally g c = search rules depth 0 fits 100
