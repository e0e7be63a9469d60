use Rattle.std.proofs.Common.{◌≡◌, ◌∙◌, [], ◌∷◌, ◌++◌, ap}
use Rattle.std.specs.Prelude.{decimal}
use Rattle.pw_obis.specs.Registers.{register_name}
use Rattle.pw_report.specs.Layout.{instant_text}
use Rattle.pw_report.proofs.Fields.{fields-are, four-more}
use Rattle.pw_report.proofs.records.put_reading.Goals as goal

pub returns-clause-text : goal.returns-clause-text
returns-clause-text c = λ before fields h.
    let all = c.put_field-4.ensures.text before _ (c.in_ok-put_field-3.ensures.text before _ (c.in_ok-put_field-2.ensures.text before _ (c.in_ok-put_field.ensures.text before fields h))) in
    let name : c.as_bytes.result.now ≡ register_name c.args.register = c.as_bytes.ensures.value ∙ c.name.ensures in
    let instant : c.instant_text.result ≡ instant_text c.args.instant = c.instant_text.ensures in
    let wh : c.as_bytes-2.result.now ≡ decimal c.args.wh = c.as_bytes-2.ensures.value ∙ c.format.ensures.text ∙ ap decimal c.get.ensures.value in
    fields-are _ _ before _ _ (four-more fields _ _ _ _ ∙ (λ i. fields ++ (c.args.meter.now ∷ name i ∷ instant i ∷ wh i ∷ []))) all
