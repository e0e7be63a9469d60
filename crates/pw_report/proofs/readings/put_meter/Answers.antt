use Rattle.std.proofs.Common.{◌++◌, ◌<◌, ◌∙◌, ap, length, subst, sym}
use Rattle.std.specs.List.{flat_map}
use Rattle.std.proofs.lemmas.List.{take_all, append-nil}
use Rattle.pw_obis.specs.declared.reference.Register.{Register}
use Rattle.pw_obis.specs.Registers.{registers}
use Rattle.pw_tariff.specs.Office.{OfficeFile}
use Rattle.pw_report.specs.Exports.{reading_line}
use Rattle.pw_report.specs.Names.{meter_name}
use Rattle.pw_report.proofs.Asking.{asked-none, asked-then}
use Rattle.pw_report.proofs.Fields.{register-next, text-is}
use Rattle.pw_report.proofs.readings.put_meter.Goals as goal

pub loop-register-init : goal.loop-register-init
loop-register-init g c = record { text = λ k readings are before h. text-is _ _ _ (sym (append-nil before)) h; asked = asked-none _ g.met.S.Shelf.same_yet _ }

pub loop-register-preserved : goal.loop-register-preserved
loop-register-preserved g c =
    let was = c.loop-register.invariant in
    let one = c.in_ok-put_register.ensures.report.asked in
    record {
      text = λ k readings are before h.
          let prior = one.kept.clean k in
          register-next _ _ _ _ _ _ c.args.meter.0 readings before _ _ (was.asked.content prior) (ap (λ (o : OfficeFile). meter_name o c.args.meter.0) was.asked.office) c.loop-register-test.true
          are (was.text prior readings are before h) (c.in_ok-put_register.ensures.text k);
      asked = asked-then _ g.met.S.Shelf.same_then _ _ _ _ was.asked one;
    }

pub put_register-requires-clause-meter : goal.put_register-requires-clause-meter
put_register-requires-clause-meter g c =
    subst (λ (o : OfficeFile). c.args.meter.0 < length o.meters) (sym c.loop-register.invariant.asked.office) c.requires.meter

pub put_register-requires-clause-open_yet : goal.put_register-requires-clause-open_yet
put_register-requires-clause-open_yet g c = c.loop-register.invariant.asked.shut ∙ c.requires.open_yet

pub returns-clause-text : goal.returns-clause-text
returns-clause-text g c = λ k readings are before h.
    let all = take_all c.loop-register.register-index registers c.loop-register-test.false in
    let name = meter_name c.args.book.now.office c.args.meter.0 in
    text-is _ _ _ (ap (λ xs. before ++ flat_map (λ (r : Register). flat_map (reading_line name r) (readings r)) xs) all) (c.loop-register.invariant.text k readings are before h)
