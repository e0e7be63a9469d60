use Rattle.std.proofs.Common.{◌≡◌, ◌∙◌, [], ◌∷◌, ap}
use Rattle.std.specs.Prelude.{decimal}
use Rattle.pw_obis.specs.Registers.{register_name}
use Rattle.pw_report.specs.Exports.{mark}
use Rattle.pw_report.specs.Layout.{instant_text}
use Rattle.pw_report.proofs.Fields.{row-of}
use Rattle.pw_report.proofs.readings.ShownTellsReadingRow.tell.Goals as goal

pub returns-clause-text : goal.returns-clause-text
returns-clause-text c = λ before h.
    let all = c.end.ensures.text before _ (c.in_ok-put_field-5.ensures.text before _ (c.in_ok-put_field-4.ensures.text before _ (c.in_ok-put_field-3.ensures.text before _ (c.in_ok-put_field-2.ensures.text before _ (c.in_ok-put_field.ensures.text before [] h))))) in
    let name : c.as_bytes.result.now ≡ register_name c.args.self.now.register = c.as_bytes.ensures.value ∙ c.name.ensures in
    let instant : c.instant_text.result ≡ instant_text c.args.reading.now.instant = c.instant_text.ensures in
    let wh : c.as_bytes-2.result.now ≡ decimal c.args.reading.now.wh = c.as_bytes-2.ensures.value ∙ c.format.ensures.text ∙ ap decimal c.get.ensures.value in
    let counted : c.mark_of.result.now ≡ mark c.args.reading.now = c.mark_of.ensures in
    row-of _ _ _ _ _ (λ i. c.args.self.now.meter.now ∷ name i ∷ instant i ∷ wh i ∷ counted i ∷ []) all
