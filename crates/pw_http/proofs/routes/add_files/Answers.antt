use Rattle.std.proofs.Common.{refl}
use Rattle.pw_http.specs.declared.routes.Route.TheVariants.{File}
use Rattle.pw_page.specs.declared.File.TheVariants as file
use Rattle.pw_http.proofs.Inserts.{inserted}
use Rattle.pw_http.proofs.routes.add_files.Goals as goal

pub returns : goal.returns
returns c =
    let a1 = inserted (File file.Page) _ _ _ _ refl c.in_ok-insert.ensures in
    let a2 = inserted (File file.Script) _ _ _ _ a1 c.in_ok-insert-2.ensures in
    inserted (File file.Style) _ _ _ _ a2 c.in_ok-insert-3.ensures
