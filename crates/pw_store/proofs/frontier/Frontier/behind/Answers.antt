use Rattle.std.proofs.Common.{◌≤◌, ◌<◌, sym, subst, rules}
use Rattle.pw_store.specs.Frontier.{NoneFrom}
use Rattle.pw_store.proofs.Frontiers.{earlier_added, later_added, other_added}
use Rattle.pw_store.proofs.frontier.Frontier.behind.Goals as goal

pub returns-in_default : goal.returns-in_default
returns-in_default c records all one none = other_added c.args.self.meter c.args.self.register c.args.entry.now records all one c.args.self.from c.in_default.ensures.none none

pub returns-then-lt : goal.returns-then-lt
returns-then-lt c records all one none =
    let low : c.in-Some.instant < c.in-Some-from.from = search rules in
    let was = subst (λ from. NoneFrom c.args.self.meter c.args.self.register from records) c.in-Some-from.is none in
    subst (λ from. NoneFrom c.args.self.meter c.args.self.register from all) (sym c.in-Some-from.is)
    (earlier_added c.args.self.meter c.args.self.register c.args.entry.now records all one c.in-Some.instant c.in-Some.ensures.some c.in-Some-from.from low was)

pub returns : goal.returns
returns c records all one none =
    let high : c.in-Some-from.from ≤ c.in-Some.instant = search rules in
    let was = subst (λ from. NoneFrom c.args.self.meter c.args.self.register from records) c.in-Some-from.is none in
    later_added c.args.self.meter c.args.self.register c.args.entry.now records all one c.in-Some.instant c.in-Some.ensures.some c.in-Some-from.from high c.of.result (rw c.seconds.ensures.value at c.of.ensures.value) was
