use Rattle.pw_time.proofs.DayFacts.{begins_behind_all}
use Rattle.pw_time.proofs.days.begin_of_month.Goals as goal

pub returns-in-None-clause-begins : goal.returns-in-None-clause-begins
returns-in-None-clause-begins c =
    begins_behind_all c.args.year c.args.month c.in-None.ensures.there.1 c.requires
