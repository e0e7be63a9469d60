use Rattle.std.proofs.Common.{◌≡◌, ◌<◌, ◌++◌, [], ◌+◌, length, refl, ◌∙◌, ap, arith, length-append, rules}
use Rattle.pw_serve.proofs.Known.{Appends-then, Consumes-then}
use Rattle.pw_http.proofs.Asks.{none_in_nothing}
use Rattle.pw_http.proofs.KnownLemmas.{Appends-nothing, Consumes-nothing}
use Rattle.pw_http.proofs.Talks.{Told-nothing, Told-then}
use Rattle.pw_http.proofs.Streaming.{ends_here, cut_here, positive_if}
use Rattle.pw_http.proofs.conversation.serve_within.Goals as goal

pub loop-init : goal.loop-init
loop-init g c = rw c.in-Ok.ensures (record {
  got = [];
  text = [];
  told = Told-nothing _ _ _ _;
  consumed = Consumes-nothing _;
  written = Appends-nothing _;
  no_other = none_in_nothing _;
  waits = omega arith;
  room = refl;
  turns = omega arith;
  few = omega arith;
})

pub loop-preserved : goal.loop-preserved
loop-preserved g c =
    let i = c.loop.invariant in
    let f = c.in-Ok-fill.ensures.filled in
    let b = rw c.if-batch.false at c.in-Ok-answer_all.ensures.batch in
    let came : length c.fill.new.self ≡ length c.loop.inbox + length f.piece = ap length f.new_is ∙ length-append c.loop.inbox f.piece in
    let some : 0 < c.in-Ok-fill.count = positive_if _ b.4 in
    record {
      got = i.got ++ f.piece;
      text = i.text ++ b.0;
      told = Told-then _ _ _ _ _ i.got c.loop.inbox f.piece _ i.text b.0 _ _ i.told (rw f.new_is at b.2);
      consumed = Consumes-then _ _ _ i.got f.piece i.consumed f.consumed;
      written = Appends-then _ _ _ i.text b.0 i.written b.1;
      no_other = b.3;
      waits = b.5;
      room = c.in-Ok-answer_all.ensures.room;
      turns = omega (arith, i.turns, f.length_is, some, length-append i.got f.piece);
      few = omega (arith, i.few, i.waits, f.length_is, f.room, came, b.6);
    }

pub returns-then-batch : goal.returns-then-batch
returns-then-batch g c =
    let i = c.loop.invariant in
    let b = rw c.if-batch.true at c.in-Ok-answer_all.ensures.batch in
    record { talk = ends_here _ _ _ _ _ i.got i.text c.loop.inbox _ _ _ _ _ _ _ _ _ _ i.told i.consumed i.written c.in-Ok-fill.ensures.filled b }

pub returns-in-Err-answer_all : goal.returns-in-Err-answer_all
returns-in-Err-answer_all g c =
    let i = c.loop.invariant in
    let b = c.in-Err-answer_all.ensures.batch in
    record { talk = cut_here _ _ _ _ _ i.got i.text c.loop.inbox _ _ _ _ _ _ _ _ _ i.told i.consumed i.written c.in-Ok-fill.ensures.filled (b.0, b.1, b.2) }

pub returns : goal.returns
returns g c =
    let i = c.loop.invariant in
    record { talk = (record { got = i.got; text = i.text; count = c.loop.requests; rest = c.loop.inbox; consumed = i.consumed; written = i.written; told = i.told; no_other = i.no_other }, omega (arith, i.turns, c.loop-test.false)) }

pub returns-in-Err-fill : goal.returns-in-Err-fill
returns-in-Err-fill g c = search rules
