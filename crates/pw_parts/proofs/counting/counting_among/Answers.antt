use Rattle.pw_model.specs.inner.Search.{AreStanding}
use Rattle.pw_model.proofs.Standing.{part-stands}
use Rattle.pw_parts.proofs.Groups.{some-standing, counts-standing}
use Rattle.pw_parts.proofs.counting.counting_among.Goals as goal

pub returns-clause-counting : goal.returns-clause-counting
returns-clause-counting c = λ r.
    let some : AreStanding c.args.records.now c.deref.result.now = some-standing c.args.records.now c.deref.result.now c.in_ok-standing.standing.items c.deref.ensures.value r (c.in_ok-standing.ensures.standing r) in
    counts-standing c.args.records.now c.deref.result.now c.in_ok-counted.counted.items some.members
    (c.in_ok-counted.ensures.counting some.rising (part-stands c.args.records.now c.deref.result.now some.members))
