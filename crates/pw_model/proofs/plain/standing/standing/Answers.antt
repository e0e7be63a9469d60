use Rattle.std.proofs.Common.{◌≡◌, ◌≤◌, length}
use Rattle.pw_model.specs.Counting.{standing}
use Rattle.pw_model.specs.inner.Search.{AreStanding}
use Rattle.pw_model.proofs.EntryOrder.{if-ok}
use Rattle.pw_model.proofs.Standing.{are-standing, fewer}
use Rattle.pw_model.proofs.plain.standing.standing.Goals as goal

pub returns-clause-standing : goal.returns-clause-standing
returns-clause-standing c =
    if-ok c.standing_among.result (λ all. all.items ≡ standing c.entries.result.now) (λ all. AreStanding c.args.entries.now all.items)
    (λ all l. are-standing c.args.entries.now c.entries.result.now c.in_ok-in_order.in_order all.items c.entries.ensures.entries c.in_ok-in_order.ensures.sorted l) c.standing_among.ensures

pub returns-clause-few : goal.returns-clause-few
returns-clause-few c =
    if-ok c.standing_among.result (λ all. all.items ≡ standing c.entries.result.now) (λ all. length all.items ≤ length c.args.entries.now)
    (λ all l. fewer c.entries.result.now c.in_ok-in_order.in_order all.items (length c.args.entries.now) c.entries.ensures.entries c.in_ok-in_order.ensures.few l) c.standing_among.ensures
