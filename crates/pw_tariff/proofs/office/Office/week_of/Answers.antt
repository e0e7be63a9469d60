use Rattle.std.proofs.Common.{◌-◌, sym, arith}
use Rattle.pw_tariff.specs.Held.{file_of, bands_of, period_of}
use Rattle.pw_tariff.proofs.Later.{later-week, later-within, period-is, period-read}
use Rattle.pw_tariff.proofs.office.Office.week_of.Goals as goal

pub returns-clause-week : goal.returns-clause-week
returns-clause-week c =
    let n = rw (← c.self.view_is) at c.requires in
    let l = later-within c.self.inside.later.items c.args.period.0 (omega arith) n in
    let r = period-read c.self.inside.later.items (c.args.period.0 - 1) c.index.result.now l c.index.ensures in
    rw (← c.self.view_is, c.deref-2.ensures.value) (sym (later-week (file_of c.self.inside) c.args.period.0 (c.args.period.0 - 1) (period_of c.index.result.now) (omega arith) r))

pub returns-clause-sound : goal.returns-clause-sound
returns-clause-sound c =
    let n = rw (← c.self.view_is) at c.requires in
    let l = later-within c.self.inside.later.items c.args.period.0 (omega arith) n in
    let p = period-is (bands_of c.self.inside.bands.items) c.self.inside.later.items (c.args.period.0 - 1) c.index.result.now l c.index.ensures c.self.invariant.0.later in
    rw (← c.self.view_is, c.deref-2.ensures.value) p.week
