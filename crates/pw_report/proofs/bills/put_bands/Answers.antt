use Rattle.std.proofs.Common.{◌≡◌, arith, length, refl}
use Rattle.pw_report.specs.Bills.{used_in}
use Rattle.pw_report.specs.inner.Told.{bill_of_sheet}
use Rattle.pw_report.proofs.Listed.{listed-none, text-next, text-whole}
use Rattle.pw_report.proofs.bills.put_bands.Goals as goal

pub loop-band-init : goal.loop-band-init
loop-band-init c = listed-none _ _

pub loop-band-preserved : goal.loop-band-preserved
loop-band-preserved c =
    let line = used_in c.args.sheet.now.office.now (bill_of_sheet c.args.sheet.now) c.args.period.0 in
    text-next _ _ _ _ line c.loop-band.band c.loop-band.invariant c.in_ok-put_band.ensures refl

pub returns : goal.returns
returns c =
    let line = used_in c.args.sheet.now.office.now (bill_of_sheet c.args.sheet.now) c.args.period.0 in
    let all : c.loop-band.band ≡ length c.args.sheet.now.office.now.bands = omega (arith, c.bands-band-end.ensures.count, c.loop-band.auto.band-end, c.loop-band-test.false) in
    text-whole _ _ line _ _ c.loop-band.invariant all
