use Rattle.std.proofs.Common.{refl}
use Rattle.pw_http.specs.declared.routes.Route.TheVariants.{Month}
use Rattle.pw_report.specs.declared.page.MonthPage.TheVariants as month
use Rattle.pw_http.proofs.Inserts.{inserted}
use Rattle.pw_http.proofs.routes.add_months.Goals as goal

pub returns : goal.returns
returns c =
    let a1 = inserted (Month month.Bill) _ _ _ _ refl c.in_ok-insert.ensures in
    let a2 = inserted (Month month.Days) _ _ _ _ a1 c.in_ok-insert-2.ensures in
    inserted (Month month.Why) _ _ _ _ a2 c.in_ok-insert-3.ensures
