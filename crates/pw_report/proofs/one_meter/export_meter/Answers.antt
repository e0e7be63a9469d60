use Rattle.std.proofs.Common.{◌<◌, ◌∙◌, [], length, subst, sym}
use Rattle.pw_obis.specs.declared.reference.Register.{Register}
use Rattle.pw_tariff.specs.Office.{OfficeFile}
use Rattle.pw_model.specs.Lists.{AreReadings}
use Rattle.pw_model.specs.Shelf.{ShelfContent}
use Rattle.pw_model.proofs.Existence.{lists-exist}
use Rattle.pw_report.proofs.Fields.{meter-told}
use Rattle.pw_report.proofs.one_meter.export_meter.Goals as goal

pub put_meter-requires-clause-meter : goal.put_meter-requires-clause-meter
put_meter-requires-clause-meter g c = subst (λ (o : OfficeFile). c.args.meter.0 < length o.meters) (sym c.in_ok-still_open.ensures.report.asked.office) c.requires

pub put_meter-requires-clause-open_yet : goal.put_meter-requires-clause-open_yet
put_meter-requires-clause-open_yet g c = c.in_ok-still_open.ensures.report.asked.shut ∙ c.in_ok-still_open.ensures.open_yet

pub returns-clause-text : goal.returns-clause-text
returns-clause-text g c = λ k.
    let records = (g.S.Shelf.state c.args.book.now.shelf).content.records in
    let m = c.args.meter.0 in
    let readings = λ (r : Register). ((lists-exist records).readings m r).0 in
    let are : (r : Register) → AreReadings records m r (readings r) = λ r. ((lists-exist records).readings m r).1 in
    let was = c.in_ok-still_open.ensures.report.asked in
    let prior = c.in_ok-put_meter.ensures.report.asked.kept.clean k in
    let here = λ (r : Register). subst (λ (d : ShelfContent). AreReadings d.records m r (readings r)) (sym (was.content prior)) (are r) in
    let written = c.in_ok-put_meter.ensures.text k readings here _ (c.in_ok-put_header.ensures.text [] c.new-rows.ensures) in
    meter-told _ c.args.book.now.office _ records m readings was.office are (c.finish.ensures.text _ [] written)
