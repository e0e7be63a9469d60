-- Where a large page may come from. It serves `src/routes.rt`.
use Rattle.std.specs.Prelude.{false, Bool}
use Rattle.pw_http.specs.declared.routes.Place.{Place}
use Rattle.pw_http.specs.declared.routes.Place.TheVariants.{NoPage, NoMethod, At}
use Rattle.pw_http.specs.Routes.{may_be_large}

-- the reply to a request that goes there may be a large one
abbrev pub is_large_at : Place → Bool
is_large_at NoPage = false
is_large_at NoMethod = false
is_large_at (At route) = may_be_large route
