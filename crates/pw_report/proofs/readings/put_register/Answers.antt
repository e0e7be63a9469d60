use Rattle.std.proofs.Common.{◌≡◌, ◌∙◌, ◌++◌, ap}
use Rattle.std.specs.List.{flat_map}
use Rattle.pw_model.proofs.Answers.{lists-are_at_most_one}
use Rattle.pw_report.specs.Exports.{reading_line}
use Rattle.pw_report.specs.Names.{meter_name}
use Rattle.pw_report.proofs.Fields.{written-is}
use Rattle.pw_report.proofs.readings.put_register.Goals as goal

pub returns-clause-text : goal.returns-clause-text
returns-clause-text g c = λ k readings are before h.
    let records = (g.S.Shelf.state c.args.book.now.shelf).content.records in
    let name : c.meter_name.result.now ≡ meter_name c.args.book.now.office c.args.meter.0 =
    c.meter_name.ensures ∙ ap (λ o. meter_name o c.args.meter.0) (c.office.ensures ∙ c.in_ok-readings.ensures.question.office) in
    let same : c.deref.result.now ≡ readings =
    c.deref.ensures.value ∙ (lists-are_at_most_one records).readings c.args.meter.0 c.args.register _ _ (c.in_ok-readings.ensures.readings k) are in
    written-is _ _ _ _ (λ i. before ++ flat_map (reading_line (name i) c.args.register) (same i)) (c.tell_each.ensures.text before h)
