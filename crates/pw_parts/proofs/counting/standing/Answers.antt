use Rattle.pw_model.specs.declared.records.Entry.{Entry}
use Rattle.pw_model.specs.Counting.{Member}
use Rattle.pw_model.specs.Lists.{Lists}
use Rattle.pw_model.specs.Same.{entry_order}
use Rattle.pw_model.proofs.Standing.{are-standing}
use Rattle.pw_parts.proofs.counting.standing.Goals as goal

pub returns-clause-standing : goal.returns-clause-standing
returns-clause-standing c =
    let sorted : Lists entry_order (λ (e : Entry). Member e c.args.entries.now) c.entries.result.now = rw c.entries.ensures.entries c.in_ok-in_order.ensures.sorted in
    are-standing c.args.entries.now c.entries.result.now c.in_ok-in_order.in_order c.in_ok-standing.standing.items c.entries.ensures.entries c.in_ok-in_order.ensures.sorted (c.in_ok-standing.ensures.standing sorted.rising)
