use Rattle.std.proofs.Common.{◌≡◌, map, take}
use Rattle.std.specs.List.{list_any}
use Rattle.httparse.specs.Spans.{header_bytes}
use Rattle.pw_http.specs.Heads.{is_named}
use Rattle.pw_http.proofs.requests.has_named.Given as goal

abbrev pub invariant-loop-span : goal.invariant-loop-span
invariant-loop-span l = l.found ≡ list_any (is_named l.name) (map (header_bytes l.buf) (take l.span-index l.spans))
