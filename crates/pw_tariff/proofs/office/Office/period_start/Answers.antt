use Rattle.std.proofs.Common.{◌≡◌, ◌-◌, Some, slice_get, subst, arith}
use Rattle.pw_tariff.specs.Office.{OfficeFile, period_starts}
use Rattle.pw_tariff.specs.Held.{file_of, period_of}
use Rattle.pw_tariff.proofs.Later.{later-start, later-within, period-read}
use Rattle.pw_tariff.proofs.office.Office.period_start.Goals as goal

pub returns : goal.returns
returns c =
    let n = rw (← c.self.view_is) at c.requires in
    let l = later-within c.self.inside.later.items c.args.period.0 (omega arith) n in
    let r = period-read c.self.inside.later.items (c.args.period.0 - 1) c.index.result.now l c.index.ensures in
    let P : OfficeFile → Type 0 = λ f. slice_get (period_starts f) c.args.period.0 ≡ Some c.seconds.result in
    subst P c.self.view_is (rw c.seconds.ensures.value (later-start (file_of c.self.inside) c.args.period.0 (c.args.period.0 - 1) (period_of c.index.result.now) (omega arith) r))
