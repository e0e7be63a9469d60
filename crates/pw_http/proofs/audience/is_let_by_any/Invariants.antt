use Rattle.std.proofs.Common.{◌≡◌, take}
use Rattle.std.specs.List.{list_any}
use Rattle.pw_http.specs.Audience.{is_let_by}
use Rattle.pw_http.proofs.audience.is_let_by_any.Given as goal

abbrev pub invariant-loop-origin : goal.invariant-loop-origin
invariant-loop-origin l = l.found ≡ list_any (is_let_by l.host l.page) (take l.origin-index l.origins)
