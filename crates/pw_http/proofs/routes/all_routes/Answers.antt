use Rattle.std.proofs.Common.{◌∙◌, ap}
use Rattle.pw_http.specs.Routes.{route_table}
use Rattle.pw_http.specs.inner.Added.{all_added, exports, files, months, pages, uploads}
use Rattle.pw_http.proofs.routes.all_routes.Goals as goal

pub returns : goal.returns
unfolding route_table
returns c =
    let a1 = c.in_ok-add_uploads.ensures ∙ ap (λ rows. all_added rows uploads) c.new-router.ensures in
    let a2 = c.in_ok-add_pages.ensures ∙ ap (λ rows. all_added rows pages) a1 in
    let a3 = c.in_ok-add_exports.ensures ∙ ap (λ rows. all_added rows exports) a2 in
    let a4 = c.in_ok-add_months.ensures ∙ ap (λ rows. all_added rows months) a3 in
    c.in_ok-add_files.ensures ∙ ap (λ rows. all_added rows files) a4
