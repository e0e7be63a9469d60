use Rattle.pw_model.specs.declared.records.Entry.{Entry}
use Rattle.pw_model.specs.Counting.{Member, standing}
use Rattle.pw_model.specs.Lists.{Lists}
use Rattle.pw_model.specs.Same.{entry_order}
use Rattle.pw_model.proofs.Standing.{part-stands}
use Rattle.pw_parts.proofs.Groups.{counts-standing}
use Rattle.pw_parts.proofs.counting.counting.Goals as goal

pub returns-clause-counting : goal.returns-clause-counting
returns-clause-counting c =
    let some : Lists entry_order (λ (e : Entry). Member e (standing c.args.entries.now)) c.deref.result.now = rw c.deref.ensures.value c.in_ok-standing.ensures.standing in
    counts-standing c.args.entries.now c.deref.result.now c.in_ok-counted.counted.items some.members
    (c.in_ok-counted.ensures.counting some.rising (part-stands c.args.entries.now c.deref.result.now some.members))
