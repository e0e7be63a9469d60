use Rattle.pw_serve.proofs.Turns.{leads-none, leaving-over}
use Rattle.pw_serve.proofs.turn.step.Goals as goal

pub returns-in-End-clause-leads : goal.returns-in-End-clause-leads
returns-in-End-clause-leads g c = leads-none g.S.Service.answers _ _ _ c.args.peer.now _ (λ first own p. leaving-over first _ own c.args.peer.now p c.in-End.ensures)
