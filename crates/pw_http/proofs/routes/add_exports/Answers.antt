use Rattle.std.proofs.Common.{refl}
use Rattle.pw_http.specs.declared.routes.Route.TheVariants.{MeterReadings, Table}
use Rattle.pw_report.specs.declared.page.Table.TheVariants as table
use Rattle.pw_http.proofs.Inserts.{inserted}
use Rattle.pw_http.proofs.routes.add_exports.Goals as goal

pub returns : goal.returns
returns c =
    let a1 = inserted (Table table.Readings) _ _ _ _ refl c.in_ok-insert.ensures in
    let a2 = inserted (Table table.Energies) _ _ _ _ a1 c.in_ok-insert-2.ensures in
    let a3 = inserted (Table table.Assignments) _ _ _ _ a2 c.in_ok-insert-3.ensures in
    let a4 = inserted (Table table.TopUps) _ _ _ _ a3 c.in_ok-insert-4.ensures in
    let a5 = inserted (Table table.Withdrawals) _ _ _ _ a4 c.in_ok-insert-5.ensures in
    inserted MeterReadings _ _ _ _ a5 c.in_ok-insert-6.ensures
