use Rattle.pw_time.specs.Days.{day_number}
use Rattle.pw_time.proofs.DayFacts.{begins_some}
use Rattle.pw_time.proofs.days.day_begin.Goals as goal

pub returns-clause-begins : goal.returns-clause-begins
returns-clause-begins c =
    let day = day_number c.args.year c.args.month c.args.day in
    begins_some c.of.result c.begin_of.result day c.of.ensures.value
    (c.begin_of.ensures.begins day c.in_ok-midnight.ensures.value)
