use Rattle.std.proofs.Common.{arith, rules, pos, ◌≤ℤ◌}
use Rattle.std.proofs.lemmas.Int.{ints}
use Rattle.pw_time.proofs.CalendarFacts.{short_year_seconds}
use Rattle.pw_time.proofs.civil.CivilTime.second_of_century.Goals as goal

pub overflow_cast-result : goal.overflow_cast-result
overflow_cast-result c =
    let shown = c.in_ok-second_shown.ensures in
    let bounds = short_year_seconds c.args.self.now c.requires.year shown.there in
    let low : pos 0 ≤ℤ c.in_ok-second_shown.field-0 = omega (arith, ints, shown.value, bounds) in
    let high : c.in_ok-second_shown.field-0 ≤ℤ pos 4_294_967_295 = omega (arith, ints, shown.value, bounds) in
    search rules

pub returns-clause-value : goal.returns-clause-value
returns-clause-value c =
    let shown = c.in_ok-second_shown.ensures in
    let bounds = short_year_seconds c.args.self.now c.requires.year shown.there in
    omega (arith, ints, shown.value, bounds)

pub returns-clause-bound : goal.returns-clause-bound
returns-clause-bound c =
    let shown = c.in_ok-second_shown.ensures in
    let bounds = short_year_seconds c.args.self.now c.requires.year shown.there in
    (omega (arith, ints, shown.value, bounds), omega (arith, ints, shown.value, bounds))
