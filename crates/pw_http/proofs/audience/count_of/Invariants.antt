use Rattle.std.proofs.Common.{◌≡◌, ◌≤◌, map, take, length}
use Rattle.httparse.specs.Spans.{header_bytes}
use Rattle.pw_http.specs.Heads.{values_of}
use Rattle.pw_http.proofs.audience.count_of.Given as goal

abbrev pub invariant-loop-span : goal.invariant-loop-span
invariant-loop-span l = record {
  count : l.count ≡ length (values_of l.name (map (header_bytes l.buf) (take l.span-index l.spans)));
  few : l.count ≤ l.span-index;
}
