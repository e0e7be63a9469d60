use Rattle.std.proofs.Common.{arith}
use Rattle.pw_tariff.proofs.Gathered.{all-listed}
use Rattle.pw_tariff.proofs.spread.pieces_of.Goals as goal

pub returns : goal.returns
returns c = all-listed c.args.office.now c.args.owners.now c.args.span c.loop-basis.at c.loop-basis.pieces.items (omega arith) c.loop-basis.invariant.listed
