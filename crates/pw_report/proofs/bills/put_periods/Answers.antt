use Rattle.std.proofs.Common.{◌≡◌, ◌+◌, ◌-◌, ℕ, arith, refl}
use Rattle.pw_report.specs.Bills.{period_lines, periods_text}
use Rattle.pw_report.specs.inner.Told.{bill_of_sheet}
use Rattle.pw_report.proofs.Listed.{listed-none, text-next, text-whole}
use Rattle.pw_report.proofs.bills.put_periods.Goals as goal

pub loop-number-init : goal.loop-number-init
loop-number-init c = listed-none _ _

pub loop-number-preserved : goal.loop-number-preserved
loop-number-preserved c =
    let lines = λ (n : ℕ). period_lines c.args.sheet.now.office.now (bill_of_sheet c.args.sheet.now) (c.args.sheet.now.first.0 + n) in
    text-next _ _ _ _ lines c.loop-number.number c.loop-number.invariant c.in_ok-put_period.ensures refl

pub returns : goal.returns
unfolding periods_text
returns c =
    let lines = λ (n : ℕ). period_lines c.args.sheet.now.office.now (bill_of_sheet c.args.sheet.now) (c.args.sheet.now.first.0 + n) in
    let all : c.loop-number.number ≡ c.args.sheet.now.last.0 + 1 - c.args.sheet.now.first.0 = omega (arith, c.loop-number-test.false) in
    text-whole _ _ lines _ _ c.loop-number.invariant all
