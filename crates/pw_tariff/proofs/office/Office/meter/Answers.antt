use Rattle.std.proofs.Common.{◌∙◌}
use Rattle.pw_tariff.proofs.ById.{found-some, found-only, found-none}
use Rattle.pw_tariff.proofs.office.Office.meter.Goals as goal

pub returns-clause-some : goal.returns-clause-some
returns-clause-some c = rw (← c.self.view_is) (found-some c.self.inside.meters.items c.self.inside.by_id c.args.id.now c.copied.result c.self.invariant.1 (c.copied.ensures ∙ c.get.ensures.value))

pub returns-clause-only : goal.returns-clause-only
returns-clause-only c =
    rw (← c.self.view_is)
    (found-only c.self.inside.meters.items c.self.inside.by_id c.args.id.now c.copied.result c.self.invariant.1 c.self.invariant.0.named.meters (c.copied.ensures ∙ c.get.ensures.value))

pub returns-clause-none : goal.returns-clause-none
returns-clause-none c = rw (← c.self.view_is) (found-none c.self.inside.meters.items c.self.inside.by_id c.args.id.now c.copied.result c.self.invariant.1 (c.copied.ensures ∙ c.get.ensures.value))
