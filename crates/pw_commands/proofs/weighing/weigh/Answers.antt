use Rattle.std.proofs.Common.{◌↔◌, IsTrue, subst}
use Rattle.pw_moving.specs.Adopting.{IsAdopted}
use Rattle.pw_commands.proofs.weighing.weigh.Goals as goal

pub returns-in-Ok-clause-weighed : goal.returns-in-Ok-clause-weighed
returns-in-Ok-clause-weighed g c = λ clean. (
  c.in_ok-last.last,
  c.in_ok-last.ensures.last clean,
  subst (λ office. IsTrue c.in-Ok.weighed.adopts ↔ IsAdopted c.args.words.now c.in_ok-last.last (record { old = office; new = c.args.new.now }))
      (cc (c.office.ensures, c.in_ok-last.ensures.question.office)) c.in-Ok.ensures,
)
