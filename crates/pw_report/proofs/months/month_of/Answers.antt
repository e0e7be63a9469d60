use Rattle.std.proofs.Common.{arith, inl, inr}
use Rattle.std.proofs.lemmas.Bool.{cases_lt}
use Rattle.pw_report.proofs.MonthNames.{named, no-month, not-named}
use Rattle.pw_report.proofs.months.month_of.Goals as goal

pub returns-in_err-short-clause-none : goal.returns-in_err-short-clause-none
returns-in_err-short-clause-none c = rw c.from_residual.ensures (λ m h. not-named c.args.text.now c.in_err-short.ensures m h)

pub returns-then-month-lt1-clause-none : goal.returns-then-month-lt1-clause-none
returns-then-month-lt1-clause-none c = λ m h.
    let told = c.in_ok-short.ensures in
    elim (cases_lt c.in_ok-short.month 1) [
      | inl l ↦ no-month c.args.text.now c.in_ok-short.short c.in_ok-short.month told.1 told.2 (inl l) m h
      | inr l ↦ no-month c.args.text.now c.in_ok-short.short c.in_ok-short.month told.1 told.2 (inr (omega (arith, l))) m h
    ]

pub returns-clause-some : goal.returns-clause-some
returns-clause-some c =
    let told = c.in_ok-short.ensures in
    rw c.from-year.ensures (named c.args.text.now c.in_ok-short.short c.in_ok-short.month told.0 told.2 (omega arith) (omega arith))
