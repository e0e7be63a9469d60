use Rattle.std.proofs.Common.{refl}
use Rattle.pw_http.proofs.Asks.{none_while_waiting}
use Rattle.pw_http.proofs.KnownLemmas.{Appends-nothing}
use Rattle.pw_http.proofs.Turns.{refused_last, refused_cut, whole_last, whole_cut, whole_replied}
use Rattle.pw_http.proofs.conversation.take_turn.Goals as goal

pub returns-in-Ok-clause-turn : goal.returns-in-Ok-clause-turn
returns-in-Ok-clause-turn g c =
    refused_last c.args.audience g.S.Service.serves c.args.service.now c.args.inbox.now c.args.ended _ _ c.in-Refused.why (rw c.unread.ensures.value at c.in-Refused.ensures.next) c.in-Ok.ensures.written

pub returns-in-Err-clause-turn : goal.returns-in-Err-clause-turn
returns-in-Err-clause-turn g c =
    let cut = c.in-Err.ensures.written in
    refused_cut c.args.audience g.S.Service.serves c.args.service.now c.args.inbox.now c.args.ended _ _ c.in-Refused.why cut.0 (rw c.unread.ensures.value at c.in-Refused.ensures.next) cut.1

pub returns-in-Err-answer_whole-clause-turn : goal.returns-in-Err-answer_whole-clause-turn
returns-in-Err-answer_whole-clause-turn g c =
    let x = rw c.unread.ensures.value at c.in-Ready.ensures.next in
    let s = rw c.unread-bytes.ensures.value at c.in-Err-answer_whole.ensures.serving in
    whole_cut c.args.audience g.S.Service.serves c.args.service.now c.args.inbox.now c.args.ended _ _ _ c.in-Ready.whole x.0 s.0 s.2.0 x.1 s.1 s.2.1

pub returns-then-whole-clause-turn : goal.returns-then-whole-clause-turn
returns-then-whole-clause-turn g c =
    let x = rw c.unread.ensures.value at c.in-Ready.ensures.next in
    let s = rw c.unread-bytes.ensures.value at c.in-Ok-answer_whole.ensures.serving in
    whole_last c.args.audience g.S.Service.serves c.args.service.now c.args.inbox.now c.args.ended _ _ _ c.in-Ready.whole x.0 s.0 x.1 s.1 c.if-whole.true s.2

pub returns-else-whole-clause-turn : goal.returns-else-whole-clause-turn
returns-else-whole-clause-turn g c =
    let x = rw c.unread.ensures.value at c.in-Ready.ensures.next in
    let s = rw c.unread-bytes.ensures.value at c.in-Ok-answer_whole.ensures.serving in
    whole_replied c.args.audience g.S.Service.serves c.args.service.now c.args.inbox.now _ _ _ c.answer_whole.new.service c.in-Ready.whole x.0 s.0 x.1 s.1 c.if-whole.false s.2 c.consume.ensures

pub returns-in-More-clause-turn : goal.returns-in-More-clause-turn
returns-in-More-clause-turn g c =
    let n = rw c.unread.ensures.value at c.in-More.ensures.next in
    (none_while_waiting c.args.audience c.args.audience c.args.inbox.now n.0, n.1, n.2, refl, Appends-nothing _, refl)
