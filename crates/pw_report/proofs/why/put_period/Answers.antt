use Rattle.std.proofs.Common.{◌≡◌, ◌∙◌, ◌++◌, [], ◌∷◌, arith, sym}
use Rattle.pw_report.specs.Names.{period_name}
use Rattle.pw_report.proofs.Fields.{fields-are}
use Rattle.pw_report.proofs.Periods.{no-name, start-name}
use Rattle.pw_report.proofs.why.put_period.Goals as goal

pub returns-then-period-periods-clause-text : goal.returns-then-period-periods-clause-text
returns-then-period-periods-clause-text c = λ before fields h.
    let name : c.instant_text.result ≡ period_name c.args.office.now c.args.period.0 =
    c.instant_text.ensures ∙ sym (start-name c.args.office.now c.args.period.0 c.start_of.result c.start_of.ensures) in
    fields-are _ _ before _ _ (λ i. fields ++ (name i ∷ [])) (c.put_field.ensures.text before fields h)

pub returns-else-period-periods-clause-text : goal.returns-else-period-periods-clause-text
returns-else-period-periods-clause-text c = λ before fields h.
    let none = no-name c.args.office.now c.args.period.0 (omega (arith, c.periods.ensures.count)) in
    fields-are _ _ before _ _ (λ i. fields ++ (sym none i ∷ [])) (c.put_field-else-period-periods.ensures.text before fields h)
