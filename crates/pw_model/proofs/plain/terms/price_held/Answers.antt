use Rattle.std.proofs.Common.{arith, rules}
use Rattle.pw_model.proofs.SoundOffice.{no-period_price, no-band_price}
use Rattle.pw_model.proofs.plain.terms.price_held.Goals as goal

pub returns-then-period-periods : goal.returns-then-period-periods
returns-then-period-periods c =
    let l = c.if-period-periods.true in
    let n = c.periods.ensures.count in
    no-period_price c.args.office.now c.args.period.0 c.args.band.0 c.args.direction (omega (arith, l, n))

pub returns-then-band-bands : goal.returns-then-band-bands
returns-then-band-bands c =
    let l = c.if-period-periods.false in
    let n = c.periods.ensures.count in
    let m = c.if-band-bands.true in
    let k = c.bands.ensures.count in
    no-band_price c.args.office.now c.periods.ensures.sound c.args.period.0 c.args.band.0 c.args.direction (omega (arith, l, n)) (omega (arith, m, k))

pub returns : goal.returns
returns c = search rules depth 0 fits 100
