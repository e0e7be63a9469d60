use Rattle.std.proofs.Common.{◌≡◌, ◌∙◌, refl, sym, subst}
use Rattle.pw_tariff.specs.Office.{OfficeFile, period_at}
use Rattle.pw_tariff.specs.Held.{file_of}
use Rattle.pw_tariff.proofs.InTime.{counted}
use Rattle.pw_tariff.proofs.Order.{all-taken}
use Rattle.pw_tariff.proofs.office.Office.period.Goals as goal

pub returns-clause-period : goal.returns-clause-period
returns-clause-period c =
    let whole = all-taken c.deref-period-items.result.now c.loop-period.period-index c.loop-period-test.false in
    let b = rw (whole, c.deref-period-items.ensures.value) at c.loop-period.invariant.begun in
    let P : OfficeFile → Type 0 = λ f. c.loop-period.begun ≡ period_at f c.args.instant in
    subst P c.self.view_is (b ∙ sym (counted (file_of c.self.inside) c.self.inside.later.items c.args.instant refl))
