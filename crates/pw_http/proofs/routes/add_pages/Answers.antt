use Rattle.std.proofs.Common.{refl}
use Rattle.pw_http.specs.declared.routes.Route.TheVariants.{Account, Table}
use Rattle.pw_report.specs.declared.page.Table.TheVariants as table
use Rattle.pw_http.proofs.Inserts.{inserted}
use Rattle.pw_http.proofs.routes.add_pages.Goals as goal

pub returns : goal.returns
returns c =
    let a1 = inserted (Table table.Accounts) _ _ _ _ refl c.in_ok-insert.ensures in
    let a2 = inserted (Table table.Falls) _ _ _ _ a1 c.in_ok-insert-2.ensures in
    let a3 = inserted (Table table.Disputes) _ _ _ _ a2 c.in_ok-insert-3.ensures in
    inserted Account _ _ _ _ a3 c.in_ok-insert-4.ensures
