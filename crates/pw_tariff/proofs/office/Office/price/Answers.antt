use Rattle.std.proofs.Common.{◌-◌, sym, arith}
use Rattle.pw_tariff.specs.Held.{file_of, band_of, bands_of, period_of}
use Rattle.pw_tariff.proofs.Named.{band-read, band-bound}
use Rattle.pw_tariff.proofs.Later.{first-price, first-bound, later-price, later-bound, later-within, period-is, period-read, prices-there}
use Rattle.pw_tariff.proofs.office.Office.price.Goals as goal

pub returns-then-period-eq0-clause-price : goal.returns-then-period-eq0-clause-price
returns-then-period-eq0-clause-price c =
    let l = rw (← c.self.view_is) at c.requires.band in
    let r = band-read c.self.inside.bands.items c.args.band.0 c.index.result.now l c.index.ensures in
    rw (← c.self.view_is, c.price.ensures) (sym (first-price (file_of c.self.inside) c.args.period.0 c.args.band.0 c.args.direction (band_of c.index.result.now) (omega arith) r))

pub returns-then-period-eq0-clause-bound : goal.returns-then-period-eq0-clause-bound
returns-then-period-eq0-clause-bound c =
    let l = rw (← c.self.view_is) at c.requires.band in
    rw c.price.ensures (first-bound (band_of c.index.result.now) c.args.direction (band-bound c.self.inside.bands.items c.args.band.0 c.index.result.now l c.index.ensures c.self.invariant.0.prices))

pub price-requires-2-clause-import_prices : goal.price-requires-2-clause-import_prices
price-requires-2-clause-import_prices c =
    let n = rw (← c.self.view_is) at c.requires.period in
    let b = rw (← c.self.view_is) at c.requires.band in
    (prices-there (bands_of c.self.inside.bands.items) c.self.inside.later.items c.args.period.0 c.args.band.0 c.index-2.result.now (omega arith) n c.index-2.ensures c.self.invariant.0.later b).0

pub price-requires-2-clause-export_prices : goal.price-requires-2-clause-export_prices
price-requires-2-clause-export_prices c =
    let n = rw (← c.self.view_is) at c.requires.period in
    let b = rw (← c.self.view_is) at c.requires.band in
    (prices-there (bands_of c.self.inside.bands.items) c.self.inside.later.items c.args.period.0 c.args.band.0 c.index-2.result.now (omega arith) n c.index-2.ensures c.self.invariant.0.later b).1

pub returns-clause-price : goal.returns-clause-price
returns-clause-price c =
    let n = rw (← c.self.view_is) at c.requires.period in
    let l = later-within c.self.inside.later.items c.args.period.0 (omega arith) n in
    let r = period-read c.self.inside.later.items (c.args.period.0 - 1) c.index-2.result.now l c.index-2.ensures in
    rw (← c.self.view_is, c.price-2.ensures) (sym (later-price (file_of c.self.inside) c.args.period.0 (c.args.period.0 - 1) c.args.band.0 c.args.direction (period_of c.index-2.result.now) (omega arith) r))

pub returns-clause-bound : goal.returns-clause-bound
returns-clause-bound c =
    let n = rw (← c.self.view_is) at c.requires.period in
    let b = rw (← c.self.view_is) at c.requires.band in
    let l = later-within c.self.inside.later.items c.args.period.0 (omega arith) n in
    let p = period-is (bands_of c.self.inside.bands.items) c.self.inside.later.items (c.args.period.0 - 1) c.index-2.result.now l c.index-2.ensures c.self.invariant.0.later in
    rw c.price-2.ensures (later-bound (bands_of c.self.inside.bands.items) (period_of c.index-2.result.now) c.args.band.0 c.args.direction p b)
