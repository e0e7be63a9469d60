use Rattle.std.proofs.Common.{◌≡◌, ◌∙◌, [], ap}
use Rattle.pw_obis.specs.Registers.{register_name}
use Rattle.pw_tariff.specs.Ids.{direction_name}
use Rattle.pw_tariff.specs.Office.{office_of}
use Rattle.pw_model.specs.Same.{direction_of}
use Rattle.pw_bills.specs.Why.{row_told}
use Rattle.pw_report.specs.DaysAndWhy.{why_fields}
use Rattle.pw_report.specs.Names.{meter_name}
use Rattle.pw_report.proofs.Fields.{row-of}
use Rattle.pw_report.proofs.MonthTexts.{piece-fields}
use Rattle.pw_report.proofs.why.OfficeTellsWhyPiece.tell.Goals as goal

pub returns-clause-text : goal.returns-clause-text
returns-clause-text c = λ before h.
    let file = c.args.self.now in
    let w = c.args.piece.now in
    let all = c.end.ensures.text before _ (c.in_ok-put_given.ensures.text before _ (c.in_ok-put_span.ensures.text before _ (c.in_ok-put_field-3.ensures.text before _ (c.in_ok-put_field-2.ensures.text before _ (c.in_ok-put_field.ensures.text before [] h))))) in
    let way : c.direction_of-direction.result ≡ direction_of w.register = c.direction_of-direction.ensures in
    let kind : c.as_bytes.result.now ≡ direction_name (direction_of w.register) = c.as_bytes.ensures.value ∙ c.name.ensures ∙ ap direction_name way in
    let meter : c.meter_name.result.now ≡ meter_name file w.meter.0 = c.meter_name.ensures in
    let register : c.as_bytes-2.result.now ≡ register_name w.register = c.as_bytes-2.ensures.value ∙ c.name-2.ensures in
    row-of _ _ _ _ (why_fields file (row_told (office_of file) w)) (λ i. piece-fields file w (kind i) (meter i) (register i) (way i)) all
