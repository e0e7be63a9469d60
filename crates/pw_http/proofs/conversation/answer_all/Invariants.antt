use Rattle.std.proofs.Common.{◌≡◌, ◌≤◌, ℕ, ◌+◌, List, length}
use Rattle.std.specs.Io.KnownBytes.{Appends}
use Rattle.pw_http.specs.Runs.{Told}
use Rattle.pw_http.specs.Heads.{most_fields}
use Rattle.pw_http.specs.declared.requests.TheConstants.{ROOM}
use Rattle.pw_http.proofs.conversation.answer_all.Given as goal

-- the replies so far are those to what was taken from the bytes received
abbrev pub invariant-loop-turn : goal.invariant-loop-turn
invariant-loop-turn g l = record {
  text : List ℕ;
  told : Told l.fn.audience g.S.Service.serves l.fn.service l.fn.inbox text l.replies l.service l.inbox;
  written : Appends (g.W.Write.contents l.fn.writer) (g.W.Write.contents l.writer) text;
  room : length l.headers ≡ most_fields;
  few : l.replies + length l.inbox ≤ length l.fn.inbox;
  fits : length l.fn.inbox ≤ ROOM;
}

abbrev pub decreases-loop-turn : goal.decreases-loop-turn
decreases-loop-turn g l = length l.inbox
