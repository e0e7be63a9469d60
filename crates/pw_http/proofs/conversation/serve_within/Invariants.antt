use Rattle.std.proofs.Common.{◌≡◌, ◌≤◌, ◌<◌, ℕ, ◌+◌, ◌*◌, List, length}
use Rattle.std.specs.Io.KnownBytes.{Appends, Consumes}
use Rattle.pw_http.specs.Requests.{HasNoWhole}
use Rattle.pw_http.specs.Runs.{Told}
use Rattle.pw_http.specs.Heads.{most_fields}
use Rattle.pw_http.specs.declared.requests.TheConstants.{ROOM}
use Rattle.pw_http.proofs.conversation.serve_within.Given as goal

-- What was read so far is the requests that were answered and the bytes that wait, in which is no whole request.
abbrev pub invariant-loop : goal.invariant-loop
invariant-loop g l = record {
  got : List ℕ;
  text : List ℕ;
  told : Told l.fn.audience g.S.Service.serves l.fn.service got text l.requests l.service l.inbox;
  consumed : Consumes (g.R.Read.remaining l.fn.reader) (g.R.Read.remaining l.reader) got;
  written : Appends (g.W.Write.contents l.fn.writer) (g.W.Write.contents l.writer) text;
  no_other : HasNoWhole l.fn.audience l.inbox;
  waits : length l.inbox < ROOM;
  room : length l.headers ≡ most_fields;
  turns : l.counter ≤ length got;
  few : l.requests + length l.inbox ≤ l.counter * ROOM;
}
