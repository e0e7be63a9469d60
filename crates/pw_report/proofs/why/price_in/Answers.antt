use Rattle.std.proofs.Common.{inl, inr, arith, sym, rules}
use Rattle.pw_report.proofs.Periods.{no-price}
use Rattle.pw_report.proofs.why.price_in.Goals as goal
use Rattle.pw_report.proofs.why.price_in.Goals.{else-period-periods-via-then-period-periods+else-band-bands, else-period-periods-via-else-period-periods}

pub returns-else-period-periods : goal.returns-else-period-periods
returns-else-period-periods c = elim c.else-period-periods.branch [
  | else-period-periods-via-then-period-periods+else-band-bands w ↦ sym (no-price c.args.office.now c.args.period.0 c.args.band.0 c.args.direction c.periods.ensures.sound (inr (omega (arith, w.bands.ensures.count, w.if-band-bands.false))))
  | else-period-periods-via-else-period-periods w ↦ sym (no-price c.args.office.now c.args.period.0 c.args.band.0 c.args.direction c.periods.ensures.sound (inl (omega (arith, c.periods.ensures.count))))
]

pub returns-then-band-bands : goal.returns-then-band-bands
returns-then-band-bands c = search rules depth 0 fits 100
