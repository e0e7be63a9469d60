use Rattle.std.proofs.Common.{◌∙◌, arith}
use Rattle.pw_bills.proofs.Single.{one-stretch}
use Rattle.pw_bills.proofs.energies.energy_between.Goals as goal

pub days-requires : goal.days-requires
days-requires g c = one-stretch c.args.from c.args.until c.requires.later c.requires.ended

pub returns-clause-energy : goal.returns-clause-energy
returns-clause-energy g c = λ k. c.wh.ensures ∙ c.in_ok-energies.ensures.energies k 0 (omega arith) c.args.period c.args.band c.args.direction
