use Rattle.std.proofs.Common.{◌≡◌, ◌≤◌, map, take, length, codes}
use Rattle.httparse.specs.Spans.{header_bytes}
use Rattle.pw_http.specs.Heads.{values_of}
use Rattle.pw_http.specs.Requests.{length_said}
use Rattle.pw_http.proofs.requests.said_length.Given as goal

abbrev pub invariant-loop-span : goal.invariant-loop-span
invariant-loop-span l = record {
  said : l.said ≡ length_said (values_of (codes "content-length") (map (header_bytes l.buf) (take l.span-index l.spans)));
  count : l.count ≡ length (values_of (codes "content-length") (map (header_bytes l.buf) (take l.span-index l.spans)));
  few : l.count ≤ l.span-index;
}
