use Rattle.std.proofs.Common.{rules, arith}
use Rattle.pw_tariff.specs.Held.{bands_of}
use Rattle.pw_tariff.proofs.Named.{day-is, day-read, letter-named, within-week}
use Rattle.pw_tariff.proofs.office.Office.band_of_hour.Goals as goal

pub bounds-as_bytes-hour : goal.bounds-as_bytes-hour
bounds-as_bytes-hour c =
    let w = c.week_of-week.ensures.sound in
    let l = within-week c.week_of-week.result.now w.0 c.requires.day in
    let d = day-is c.args.self.now.bands c.week_of-week.result.now c.args.hour.day c.index-week-hour.result l c.index-week-hour.is w.1 in
    rw c.as_bytes.ensures.value (let n = d.0 in let h = c.requires.hour in omega (arith, n, h))

pub overflow_cast-result : goal.overflow_cast-result
overflow_cast-result c =
    let w = rw (← c.self.view_is) at c.week_of-week.ensures.sound in
    let l = within-week c.week_of-week.result.now w.0 c.requires.day in
    let d = day-is (bands_of c.self.inside.bands.items) c.week_of-week.result.now c.args.hour.day c.index-week-hour.result l c.index-week-hour.is w.1 in
    let e = rw (c.deref.ensures.value, c.as_bytes.ensures.value) at c.named.ensures in
    let b = letter-named _ _ c.args.hour.hour d c.requires.hour in
    let m = c.self.invariant.0.bands.1 in
    search (rules, e, b, m)

pub returns-clause-within : goal.returns-clause-within
returns-clause-within c =
    let w = rw (← c.self.view_is) at c.week_of-week.ensures.sound in
    let l = within-week c.week_of-week.result.now w.0 c.requires.day in
    let d = day-is (bands_of c.self.inside.bands.items) c.week_of-week.result.now c.args.hour.day c.index-week-hour.result l c.index-week-hour.is w.1 in
    let e = rw (c.deref.ensures.value, c.as_bytes.ensures.value) at c.named.ensures in
    rw (← c.self.view_is, e) (letter-named _ _ c.args.hour.hour d c.requires.hour)

pub returns-clause-band : goal.returns-clause-band
returns-clause-band c =
    let w = rw (← c.self.view_is) at c.week_of-week.ensures.sound in
    let l = within-week c.week_of-week.result.now w.0 c.requires.day in
    let e = rw (c.deref.ensures.value, c.as_bytes.ensures.value) at c.named.ensures in
    let r = day-read c.week_of-week.result.now c.args.hour.day c.index-week-hour.result l c.index-week-hour.is in
    rw (← c.week_of-week.ensures.week, ← c.self.view_is, r) e
