use Rattle.std.proofs.Common.{◌≡◌, ◌∙◌, ◌++◌, ℕ, List, [], ap, append_assoc, arith}
use Rattle.pw_report.specs.DaysAndWhy.{day_lines, days_header, days_text}
use Rattle.pw_report.specs.Exports.{csv_line}
use Rattle.pw_report.specs.Layout.{listed_below}
use Rattle.pw_report.specs.inner.Told.{day_energies}
use Rattle.pw_report.proofs.Fields.{text-is}
use Rattle.pw_report.proofs.Listed.{listed-none, listed-next}
use Rattle.pw_report.proofs.days.days_text.Goals as goal

pub loop-day-init : goal.loop-day-init
loop-day-init c = text-is _ _ _ (listed-none (csv_line days_header) _) (c.in_ok-put_header.ensures.text [] c.new-rows.ensures)

pub loop-day-preserved : goal.loop-day-preserved
loop-day-preserved c =
    let lines = day_lines c.args.told.now.office.now c.args.told.now.month (day_energies c.args.told.now.energies.now) in
    text-is _ _ _ (append_assoc (csv_line days_header) (listed_below c.loop-day.day lines) (lines c.loop-day.day) ∙ ap (λ (t : List ℕ). csv_line days_header ++ t) (listed-next lines c.loop-day.day))
    (c.in_ok-put_day.ensures.text _ c.loop-day.invariant)

pub returns-clause-text : goal.returns-clause-text
unfolding days_text
returns-clause-text c =
    let lines = day_lines c.args.told.now.office.now c.args.told.now.month (day_energies c.args.told.now.energies.now) in
    let all : c.loop-day.day ≡ c.args.count = omega (arith, c.loop-day-test.false) in
    c.finish.ensures.text _ [] (text-is _ _ _ (ap (λ (n : ℕ). csv_line days_header ++ listed_below n lines) all) c.loop-day.invariant)
