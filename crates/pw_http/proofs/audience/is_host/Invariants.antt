use Rattle.std.proofs.Common.{◌≡◌, take, length}
use Rattle.std.specs.Prelude.{◌&&◌, nat_le}
use Rattle.std.specs.List.{list_all}
use Rattle.pw_http.specs.Audience.{is_host_byte}
use Rattle.pw_http.proofs.audience.is_host.Given as goal

abbrev pub invariant-loop-b : goal.invariant-loop-b
invariant-loop-b l = l.is_host ≡ (nat_le 1 (length l.text) && list_all is_host_byte (take l.b-index l.text))
