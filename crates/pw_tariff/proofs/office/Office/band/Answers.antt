use Rattle.pw_tariff.specs.Office.{band_at}
use Rattle.pw_tariff.proofs.office.Office.band.Goals as goal

pub returns-clause-band : goal.returns-clause-band
unfolding band_at
returns-clause-band c =
    let e = c.band_of_hour.ensures.band in
    rw (← c.period.ensures.period, ← c.week_hour.ensures.day, ← c.week_hour.ensures.hour) e
