use Rattle.std.proofs.Common.{◌≡◌, pos, unsigned_abs, to_z, of_z, w16, arith, rules}
use Rattle.std.proofs.lemmas.Int.{ints}
use Rattle.pw_time.proofs.CalendarFacts.{year_from_1970}
use Rattle.pw_time.proofs.civil.CivilTime.at.Goals as goal

pub overflow_cast-result : goal.overflow_cast-result
overflow_cast-result c =
    let low = year_from_1970 c.date_of_day-date.result _ c.date_of_day-date.ensures in
    search rules

pub returns-clause-value : goal.returns-clause-value
returns-clause-value c =
    let date = c.date_of_day-date.result in
    let low = year_from_1970 date _ c.date_of_day-date.ensures in
    let year : pos (unsigned_abs (to_z w16 (of_z w16 date.year))) ≡ date.year = omega (arith, ints, low, date.year_in) in
    rw year (omega (arith, ints, c.date_of_day-date.ensures))
