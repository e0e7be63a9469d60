use Rattle.std.proofs.Common.{◌++◌, [], take, true, false, refl, arith}
use Rattle.pw_serve.proofs.Known.{Appends-then}
use Rattle.pw_http.specs.Replies.{reply_bytes}
use Rattle.pw_http.specs.Requests.{is_last}
use Rattle.pw_http.proofs.KnownLemmas.{Appends-nothing}
use Rattle.pw_http.proofs.Talks.{Told-nothing, Told-on, Told-last, Told-cut_short}
use Rattle.pw_http.proofs.conversation.answer_all.Goals as goal

pub loop-turn-init : goal.loop-turn-init
loop-turn-init g c = record {
  text = [];
  told = Told-nothing _ _ _ _;
  written = Appends-nothing _;
  room = c.requires.room;
  few = omega arith;
  fits = c.requires.fits;
}

pub loop-turn-preserved : goal.loop-turn-preserved
loop-turn-preserved g c =
    let i = c.loop-turn.invariant in
    let t = rw c.in-Replied.is at c.in-Ok.ensures.turn in
    record {
      text = i.text ++ reply_bytes false t.1;
      told = Told-on _ _ _ _ _ _ _ _ _ _ t.0 t.1 i.told t.2 t.3 t.4;
      written = Appends-then _ _ _ i.text (reply_bytes false t.1) i.written t.5;
      room = c.in-Ok.ensures.room;
      few = omega (arith, i.few, t.6);
      fits = i.fits;
    }

pub returns-in-Err-clause-batch : goal.returns-in-Err-clause-batch
returns-in-Err-clause-batch g c =
    let i = c.loop-turn.invariant in
    let t = c.in-Err.ensures.turn in
    (i.text ++ take t.1 (reply_bytes (is_last t.0.asked) t.0.reply), Appends-then _ _ _ i.text _ i.written t.2, λ left ends. Told-cut_short _ _ _ _ _ _ _ left _ _ t.0.asked t.0.reply t.1 i.told (t.0.stands left ends) t.0.step, refl)

pub returns-in-Last-clause-batch : goal.returns-in-Last-clause-batch
returns-in-Last-clause-batch g c =
    let i = c.loop-turn.invariant in
    let t = rw c.in-Last.is at c.in-Ok.ensures.turn in
    (i.text ++ reply_bytes true t.0.reply, Appends-then _ _ _ i.text _ i.written t.2, λ left ends. Told-last _ _ _ _ _ _ _ left _ _ t.0.asked t.0.reply i.told (t.0.stands left ends) t.1 t.0.step)
