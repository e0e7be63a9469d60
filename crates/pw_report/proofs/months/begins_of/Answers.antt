use Rattle.std.proofs.Common.{◌≡◌, true≢false, refl, sym, arith}
use Rattle.pw_report.proofs.MonthDays.{days-are, no_day_32, one-day-more}
use Rattle.pw_report.proofs.months.begins_of.Goals as goal

pub loop-day-preserved : goal.loop-day-preserved
loop-day-preserved c =
    let was = c.loop-day.invariant in
    let there = c.in-Some.ensures in
    one-day-more c.args.month c.loop-day.begins.items _ c.loop-day.day c.in-Some.begin was (there.there.0 refl) there.instant there.begins c.in_ok-push-in-Some.ensures.items

pub returns-in-None-clause-days : goal.returns-in-None-clause-days
returns-in-None-clause-days c = λ from until span.
    let was = c.loop-day.invariant in
    days-are c.args.month c.loop-day.begins.items c.loop-day.day from until was (λ h. absurd (true≢false (sym (c.in-None.ensures.there.1 h)))) span

pub returns-in-None-clause-few : goal.returns-in-None-clause-few
returns-in-None-clause-few c = let e = c.loop-day.invariant.count in omega (arith, e, c.loop-day-test.true)

pub returns-clause-days : goal.returns-clause-days
returns-clause-days c = λ from until span.
    let was = c.loop-day.invariant in
    let all : c.loop-day.day ≡ 31 = omega (arith, c.loop-day-test.false) in
    days-are c.args.month c.loop-day.begins.items c.loop-day.day from until was (rw all (no_day_32 c.args.month.year c.args.month.month)) span

pub returns-clause-few : goal.returns-clause-few
returns-clause-few c = let e = c.loop-day.invariant.count in omega (arith, e, c.loop-day-test.false)
