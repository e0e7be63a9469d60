-- The routes with one more, as an insert leaves them.
use Rattle.std.proofs.Common.{◌≡◌, ◌∙◌, ap, Result, Ok, Err}
use Rattle.matchit.specs.Rows.{RowsOf}
use Rattle.matchit.specs.Route.{Scan, parse_route}
use Rattle.matchit.specs.Router.{InsertsRead, RouteOf}
use Rattle.matchit.specs.declared.error.InsertError.{InsertError}
use Rattle.pw_http.specs.Routes.{added, added_read, route_text}
use Rattle.pw_http.specs.declared.routes.Route.{Route}

pub inserted : (route : Route) (rows old new : RowsOf (RouteOf Route)) (u : Unit {0}) →
    old ≡ rows → InsertsRead (parse_route (route_text route)) route old new (Ok u) → new ≡ added rows route
inserted route rows old new u e x = by (parse_route (route_text route)) x ∙ ap (λ rs. added rs route) e
  where
    by : (read : Result Scan InsertError) → InsertsRead read route old new (Ok u) → new ≡ added_read read route old
    by (Ok s) y = y.1
    by (Err f) y = y.0
