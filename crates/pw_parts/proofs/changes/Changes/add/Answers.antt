use Rattle.std.proofs.Common.{◌∙◌, arith}
use Rattle.pw_parts.specs.Changes.{other_side}
use Rattle.pw_parts.proofs.Gathering.{gathered-more, gathered-same}
use Rattle.pw_parts.proofs.changes.Changes.add.Goals as goal

pub returns-clause-gathered : goal.returns-clause-gathered
returns-clause-gathered c = gathered-more c.args.side c.args.self.now.rows c.insert.new.self c.args.key c.with-change.result c.args.amount
    (let a = c.with-change.ensures.more in let b = c.at.ensures c.args.side in let w = c.from.ensures in omega (arith, a, b, w)) c.in_ok-insert.ensures.updates

pub returns-clause-other : goal.returns-clause-other
returns-clause-other c = gathered-same (other_side c.args.side) c.args.self.now.rows c.insert.new.self c.args.key c.with-change.result
    (c.with-change.ensures.other ∙ c.at.ensures (other_side c.args.side)) c.in_ok-insert.ensures.updates
