use Rattle.std.proofs.Common.{◌≡◌, ◌≤◌, ◌-◌, List, drop, length}
use Rattle.pw_http.specs.Heads.{most_fields}
use Rattle.pw_http.specs.Requests.{Begins, Request}
use Rattle.pw_http.proofs.laws.each_stream_has_one_reading.Given as goal

-- the requests so far, and what is left of the stream
abbrev pub invariant-requests : goal.invariant-requests
invariant-requests l = record {
  requests : List Request;
  begins : Begins l.fn.audience l.stream requests (drop l.at l.stream);
  within : l.at ≤ length l.stream;
  room : length l.headers ≡ most_fields;
}

abbrev pub decreases-requests : goal.decreases-requests
decreases-requests l = length l.stream - l.at
