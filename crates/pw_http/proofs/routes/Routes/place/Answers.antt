use Rattle.std.proofs.Common.{◌≡◌, true, false, refl}
use Rattle.std.proofs.lemmas.Bool.{false_from_ne_true}
use Rattle.std.proofs.lemmas.Str.{IsUtf8-from_is_utf8, is_utf8-from_IsUtf8}
use Rattle.std.specs.Str.{is_utf8}
use Rattle.pw_http.specs.Routes.{by_method, route_at}
use Rattle.pw_http.proofs.routes.Routes.place.Goals as goal

pub returns-in-Ok : goal.returns-in-Ok
returns-in-Ok c =
    let text : is_utf8 c.args.target.now ≡ true = is_utf8-from_IsUtf8 c.args.target.now c.in-Ok.ensures.cases.1 in
    let same : c.find_place.result ≡ by_method c.args.method.now (route_at c.args.target.now) = rw c.in-Ok.ensures.cases.0 at c.find_place.ensures in
    rw text same

pub returns-in-Err : goal.returns-in-Err
returns-in-Err c =
    let none : is_utf8 c.args.target.now ≡ false = false_from_ne_true _ (λ t. c.in-Err.ensures.cases.0 (IsUtf8-from_is_utf8 c.args.target.now t)) in
    rw none refl
