use Rattle.std.proofs.Common.{refl}
use Rattle.pw_time.proofs.DayFacts.{begins_from_first, instant_from_first}
use Rattle.pw_time.proofs.days.begin_of.Goals as goal

pub returns-clause-begins : goal.returns-clause-begins
returns-clause-begins c = λ day is.
    begins_from_first day c.args.midnight c.ahead_at.result _ c.from_first.result is c.requires c.ahead_at.ensures.value refl c.from_first.ensures

pub returns-clause-instant : goal.returns-clause-instant
returns-clause-instant c =
    instant_from_first c.args.midnight c.ahead_at.result _ c.from_first.result c.requires refl c.from_first.ensures
