use Rattle.std.proofs.Common.{◌≡◌, ◌∙◌, [], ◌∷◌, ◌++◌}
use Rattle.pw_report.specs.Exports.{given_name}
use Rattle.pw_report.specs.Layout.{instant_text}
use Rattle.pw_report.specs.Names.{meter_name}
use Rattle.pw_report.proofs.Fields.{fields-are, three-more}
use Rattle.pw_report.proofs.records.put_assignment.Goals as goal

pub returns-clause-text : goal.returns-clause-text
returns-clause-text c = λ before fields h.
    let all = c.put_field-3.ensures.text before _ (c.in_ok-put_field-2.ensures.text before _ (c.in_ok-put_field.ensures.text before fields h)) in
    let meter : c.meter_name.result.now ≡ meter_name c.args.office.now c.args.meter.0 = c.meter_name.ensures in
    let start : c.instant_text.result ≡ instant_text c.args.start = c.instant_text.ensures in
    let owner : c.given_name.result.now ≡ given_name c.args.office.now c.args.owner = c.given_name.ensures in
    fields-are _ _ before _ _ (three-more fields _ _ _ ∙ (λ i. fields ++ (meter i ∷ start i ∷ owner i ∷ []))) all
