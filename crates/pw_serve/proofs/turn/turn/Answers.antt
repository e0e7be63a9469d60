use Rattle.std.proofs.Common.{arith, inl, inr, ◌≡◌, ◌⊎◌, rules}
use Rattle.pw_serve.specs.declared.turn.Next.TheVariants.{Goes, Replied}
use Rattle.pw_serve.proofs.Turns.{leads-goes, leads-then, stays-then}
use Rattle.pw_serve.proofs.turn.turn.Goals.{in-Goes, in-Replied}
use Rattle.pw_serve.proofs.turn.turn.Goals as goal

pub returns-in-Waits-clause-leads : goal.returns-in-Waits-clause-leads
returns-in-Waits-clause-leads g c = leads-then g.S.Service.answers _ _ _ _ _ _ _ _ _ c.loop.invariant.leads c.in-Waits.ensures.leads

pub returns-in-Held-clause-leads : goal.returns-in-Held-clause-leads
returns-in-Held-clause-leads g c = leads-then g.S.Service.answers _ _ _ _ _ _ _ _ _ c.loop.invariant.leads c.in-Held.ensures.leads

pub returns-in-Ends-clause-leads : goal.returns-in-Ends-clause-leads
returns-in-Ends-clause-leads g c = leads-then g.S.Service.answers _ _ _ _ _ _ _ _ _ c.loop.invariant.leads c.in-Ends.ensures.leads

pub returns-then-eq-clause-looked : goal.returns-then-eq-clause-looked
returns-then-eq-clause-looked g c = c.loop.invariant.looked

pub returns-in-Waits-clause-looked : goal.returns-in-Waits-clause-looked
returns-in-Waits-clause-looked g c = λ h. c.in-Waits.ensures.looked (c.loop.invariant.looked h)

pub returns-in-Waits-clause-rests : goal.returns-in-Waits-clause-rests
returns-in-Waits-clause-rests g c = λ h. c.in-Waits.ensures.rests (c.loop.invariant.looked h)

pub returns-in-Held-clause-looked : goal.returns-in-Held-clause-looked
returns-in-Held-clause-looked g c = λ h. c.in-Held.ensures.looked (c.loop.invariant.looked h)

pub returns-in-Ends-clause-looked : goal.returns-in-Ends-clause-looked
returns-in-Ends-clause-looked g c = λ h. c.in-Ends.ensures.looked (c.loop.invariant.looked h)

pub returns-clause-looked : goal.returns-clause-looked
returns-clause-looked g c = c.loop.invariant.looked

pub loop-preserved : goal.loop-preserved
loop-preserved g c =
    let e : (c.step.result ≡ Goes) ⊎ (c.step.result ≡ Replied) = elim c.match-step.branch [
      | in-Goes w ↦ inl w.in-Goes.is
      | in-Replied w ↦ inr w.in-Replied.is
    ] in
    record {
      leads = leads-then g.S.Service.answers _ _ _ _ _ _ _ _ _ c.loop.invariant.leads (leads-goes g.S.Service.answers _ _ _ _ _ _ _ _ e c.step.ensures.leads);
      looked = λ h. c.step.ensures.looked (c.loop.invariant.looked h);
      bounded = omega arith;
      others = λ j d. stays-then _ _ _ (c.loop.invariant.others j d) (c.step.ensures.others j d);
    }

pub returns-clause-bounded : goal.returns-clause-bounded
returns-clause-bounded g c = search rules depth 0 fits 100
