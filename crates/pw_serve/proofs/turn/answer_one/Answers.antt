use Rattle.std.proofs.Common.{◌≤◌, ap, arith, drop, length, refl, ◌∙◌}
use Rattle.std.proofs.lemmas.List.{drop_all}
use Rattle.pw_serve.proofs.Turns.{leads-none, leads-refused, leads-replied, leads-same, leads-short, leaving-short}
use Rattle.pw_serve.proofs.turn.answer_one.Goals as goal

pub returns-then-is_err-clause-leads : goal.returns-then-is_err-clause-leads
returns-then-is_err-clause-leads g c = λ k now. leads-none g.S.Service.answers k _ now c.args.peer.now _ (λ first own p. leaving-short first now own c.args.peer.now p)

pub returns-in-Waits-clause-leads : goal.returns-in-Waits-clause-leads
returns-in-Waits-clause-leads g c = λ k now.
    let r = c.release.ensures.same in
    leads-same g.S.Service.answers k _ _ now c.args.peer.now _ _ (λ first own p. p) c.requires.0 c.in-Waits.ensures.answered.0 (ap (λ p. p.inbox.items) r) c.in-Waits.ensures.answered.2 (ap (λ p. p.closes) r) (ap (λ p. p.ended) r)

pub returns-in-Later-clause-leads : goal.returns-in-Later-clause-leads
returns-in-Later-clause-leads g c = λ k now.
    let r = c.release.ensures.same in
    leads-same g.S.Service.answers k _ _ now c.args.peer.now _ _ (λ first own p. p) c.requires.0 c.in-Later.ensures.answered.0 (ap (λ p. p.inbox.items) r) c.in-Later.ensures.answered.2 (ap (λ p. p.closes) r) (ap (λ p. p.ended) r)

pub returns-in-Replied-clause-leads : goal.returns-in-Replied-clause-leads
returns-in-Replied-clause-leads g c = λ k now.
    let r = c.release.ensures.same in
    let t = c.take_front.ensures.same in
    leads-replied g.S.Service.answers k _ _ now c.args.peer.now _ _ _ c.in-Replied.count c.in-Replied.closes c.requires.0 c.in-Replied.ensures.answered.2
    (c.deref.ensures.value ∙ ap (λ p. p.inbox.items) r) (c.take_front.ensures.rest ∙ ap (λ p. drop c.in-Replied.count p.inbox.items) r)
    (ap (λ p. p.outbox.items) t) (ap (λ p. p.sent) t ∙ ap (λ p. p.sent) r) refl (ap (λ p. p.ended) t ∙ ap (λ p. p.ended) r)

pub returns-in-Refused-clause-leads : goal.returns-in-Refused-clause-leads
returns-in-Refused-clause-leads g c = λ k now.
    let r = c.release.ensures.same in
    let t = c.take_front-in-Refused.ensures.same in
    let all : length c.release.new.self.inbox.items ≤ c.len-count.result = omega arith in
    leads-refused g.S.Service.answers k _ _ now c.args.peer.now _ _ _ _ c.requires.0 c.in-Refused.ensures.answered
    (c.deref.ensures.value ∙ ap (λ p. p.inbox.items) r) (ap (λ p. p.ended) r) (c.take_front-in-Refused.ensures.rest ∙ drop_all _ _ all)
    (ap (λ p. p.outbox.items) t) (ap (λ p. p.sent) t ∙ ap (λ p. p.sent) r) refl (ap (λ p. p.ended) t ∙ ap (λ p. p.ended) r)

pub returns-in-Short-clause-leads : goal.returns-in-Short-clause-leads
returns-in-Short-clause-leads g c = λ k now.
    leads-short g.S.Service.answers g.S.Service.waits k _ _ now c.args.peer.now c.args.peer.now c.deref.result.now c.answer.new.outbox.items c.release.new.self.ended c.args.may_be_large c.requires.0 c.in-Short.ensures.answered (c.deref.ensures.value ∙ ap (λ p. p.inbox.items) c.release.ensures.same)
