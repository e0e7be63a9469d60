use Rattle.std.proofs.Common.{refl}
use Rattle.pw_http.specs.declared.routes.Route.TheVariants.{Telegrams, Readouts, Assignments, TopUps, Withdrawals}
use Rattle.pw_http.proofs.Inserts.{inserted}
use Rattle.pw_http.proofs.routes.add_uploads.Goals as goal

pub returns : goal.returns
returns c =
    let a1 = inserted Telegrams _ _ _ _ refl c.in_ok-insert.ensures in
    let a2 = inserted Readouts _ _ _ _ a1 c.in_ok-insert-2.ensures in
    let a3 = inserted Assignments _ _ _ _ a2 c.in_ok-insert-3.ensures in
    let a4 = inserted TopUps _ _ _ _ a3 c.in_ok-insert-4.ensures in
    inserted Withdrawals _ _ _ _ a4 c.in_ok-insert-5.ensures
