use Rattle.std.proofs.Common.{◌≡◌, ◌∙◌, ℕ, [], ap, length, refl, subst, sym, arith}
use Rattle.pw_obis.specs.declared.reference.Register.{Register}
use Rattle.pw_tariff.specs.Office.{OfficeFile}
use Rattle.pw_model.specs.Lists.{AreReadings}
use Rattle.pw_model.specs.Shelf.{ShelfContent}
use Rattle.pw_model.proofs.Existence.{lists-exist}
use Rattle.pw_report.specs.Exports.{csv_line, meter_lines, readings_header}
use Rattle.pw_report.specs.Names.{meter_name}
use Rattle.pw_report.proofs.Asking.{asked-then}
use Rattle.pw_report.proofs.Fields.{readings-told, text-is}
use Rattle.pw_report.proofs.Listed.{listed-none, text-next}
use Rattle.pw_report.proofs.readings.export_readings.Goals as goal

pub loop-meter-init : goal.loop-meter-init
loop-meter-init g c = record {
  text = λ k. text-is _ _ _ (listed-none (csv_line readings_header) _) (c.in_ok-put_header.ensures.text [] c.new-rows.ensures);
  asked = c.in_ok-still_open.ensures.report.asked;
  open_yet = c.in_ok-still_open.ensures.open_yet;
}

pub loop-meter-preserved : goal.loop-meter-preserved
loop-meter-preserved g c =
    let was = c.loop-meter.invariant in
    let one = c.in_ok-put_meter.ensures.report.asked in
    let records = (g.S.Shelf.state c.args.book.now.shelf).content.records in
    let readings = λ (m : ℕ) (r : Register). ((lists-exist records).readings m r).0 in
    let m = c.loop-meter.meter in
    record {
      text = λ k.
          let prior = one.kept.clean k in
          let same = sym (was.asked.content prior) in
          let more = c.in_ok-put_meter.ensures.text k (readings m) (λ r. subst (λ (d : ShelfContent). AreReadings d.records m r (readings m r)) same ((lists-exist records).readings m r).1) _ (was.text prior) in
          text-is _ _ _ (text-next (csv_line readings_header) _ _ _ (λ n. meter_lines (meter_name c.args.book.now.office n) (readings n)) m refl refl (ap (λ (o : OfficeFile). meter_lines (meter_name o m) (readings m)) was.asked.office)) more;
      asked = asked-then _ g.met.S.Shelf.same_then _ _ _ _ was.asked one;
      open_yet = was.open_yet;
    }

pub returns-clause-text : goal.returns-clause-text
returns-clause-text g c = λ k.
    let was = c.loop-meter.invariant in
    let records = (g.S.Shelf.state c.args.book.now.shelf).content.records in
    let same = ap (λ (o : OfficeFile). length o.meters) (c.office.ensures ∙ c.in_ok-still_open.ensures.report.asked.office) in
    let all : c.loop-meter.meter ≡ length c.args.book.now.office.meters = omega (arith, same, c.meters-meter-end.ensures.count) in
    readings-told _ c.args.book.now.office records (λ m r. ((lists-exist records).readings m r).0) c.loop-meter.meter all (λ m r. ((lists-exist records).readings m r).1)
    (c.finish.ensures.text _ [] (was.text k))
