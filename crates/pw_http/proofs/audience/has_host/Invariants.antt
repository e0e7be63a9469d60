use Rattle.std.proofs.Common.{◌≡◌, take}
use Rattle.std.specs.List.{list_any}
use Rattle.pw_http.specs.Audience.{is_host_of}
use Rattle.pw_http.proofs.audience.has_host.Given as goal

abbrev pub invariant-loop-origin : goal.invariant-loop-origin
invariant-loop-origin l = l.found ≡ list_any (is_host_of l.host) (take l.origin-index l.origins)
