-- A month ends where the next one begins.
use Rattle.std.proofs.Common.{◌≡◌, ◌∙◌, ◌+◌, ◌<◌, ◌≤◌, ℕ, Bool, List, cond, refl, sym, ap, subst, arith, inl, inr, lt-ltb, le-ltb}
use Rattle.jiff_core.specs.Calendar.{day_count, days_from_civil, days_of_months, days_of_years}
use Rattle.pw_time.specs.declared.instant.TheConstants.{FIRST_SECOND, END_SECOND}
use Rattle.pw_time.specs.Days.{BeginsAt, IsBound, day_behind_month, day_number}
use Rattle.pw_time.proofs.DayFacts.{begins_2100, begins_once, first_and_last}
use Rattle.pw_months.proofs.BillSums.{bills-add_up}
use Rattle.pw_report.specs.declared.months.Month.{Month}
use Rattle.pw_report.specs.Laws.{IsNext, MonthsAreAllTime, MonthsFollow}
use Rattle.pw_report.specs.Months.{IsSpan, IsThere}
use Rattle.pw_report.proofs.MonthsThere.{begun-bound}

behind-is-next : (m n : Month) → IsThere n → IsNext m n → day_behind_month m.year m.month ≡ day_number n.year n.month 1
behind-is-next m n there (inl e) =
    let few = there.2 in
    let low : m.month < 12 = omega (arith, few, e) in
    ap (λ (b : Bool). cond b (day_number m.year (m.month + 1) 1) (day_number (m.year + 1) 1 1)) (lt-ltb m.month 12 low)
    ∙ (λ i. day_number (sym e.0 i) (sym e.1 i) 1)
behind-is-next m n there (inr e) =
    let high : 12 ≤ m.month = omega (arith, e) in
    ap (λ (b : Bool). cond b (day_number m.year (m.month + 1) 1) (day_number (m.year + 1) 1 1)) (le-ltb m.month 12 high)
    ∙ (λ i. day_number (sym e.0 i) (sym e.2 i) 1)

pub months-follow : MonthsFollow
months-follow office s a m n from until begin end there next h g =
    let P : ℕ → Type 0 = λ d. BeginsAt d until in
    let ends = subst P (behind-is-next m n there next) h.month.ends in
    let same = begins_once (day_number n.year n.month 1) until begin h.month.bound (begun-bound begin g.first) ends g.month.begins in
    let early = h.later in
    let late = g.later in
    (same, bills-add_up office s a from until end (omega (arith, early)) (omega (arith, same, late)))

first_day : day_number 2000 1 1 ≡ 10_957
unfolding days_from_civil day_count days_of_years days_of_months
first_day = refl

pub months-are-all-time : MonthsAreAllTime
months-are-all-time = record {
  follow = months-follow;
  first = λ from until h.
      let P : ℕ → Type 0 = λ d. BeginsAt d FIRST_SECOND in
      begins_once (day_number 2000 1 1) from FIRST_SECOND (begun-bound from h.first) (omega arith, omega arith) h.month.begins
      (subst P (sym first_day) first_and_last.first);
  last = λ from until h.
      begins_once (day_number 2100 1 1) until END_SECOND h.month.bound (omega arith, omega arith) h.month.ends
      (begins_2100 2100 1 refl refl);
}
