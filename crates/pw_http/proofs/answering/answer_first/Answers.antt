use Rattle.std.proofs.Common.{refl}
use Rattle.pw_http.proofs.FirstAnswers.{cut-so-far, put, refused-answered, reply-answer}
use Rattle.pw_http.proofs.answering.answer_first.Goals as goal

pub returns-in-Ok : goal.returns-in-Ok
returns-in-Ok g c = record { answered = refused-answered c.args.audience g.S.Service.serves _ _ _ c.in-Refused.why _ c.in-Refused.ensures.next (put _ _ _ c.requires.empty c.in-Ok.ensures.written) }

pub returns-in-Ready : goal.returns-in-Ready
returns-in-Ready g c =
    let x = c.in-Ready.ensures.next in
    record { answered = reply-answer c.args.audience g.S.Service.serves _ _ c.in-Ready.whole x.0 _ _ _ _ _ x.1 c.reply_in_turn.ensures.reply }

pub returns-in-Nothing : goal.returns-in-Nothing
returns-in-Nothing g c =
    let x = cut-so-far c.args.audience _ _ c.ask_next.result c.in-Nothing.is c.ask_next.ensures.next c.requires.some in
    record { answered = (refl, x.0, c.requires.empty, x.1) }
