use Rattle.std.proofs.Common.{arith}
use Rattle.pw_tariff.proofs.Starts.{begun-owner, begun-nobody}
use Rattle.pw_tariff.proofs.owners.Owners.at.Goals as goal

pub returns-then-begun-eq0 : goal.returns-then-begun-eq0
returns-then-begun-eq0 c =
    rw (← c.self.view_is) (begun-nobody c.self.inside.starts.now c.args.second c.begun-begun.result c.begun-begun.ensures (omega arith))

pub returns : goal.returns
returns c =
    rw (← c.self.view_is) (begun-owner c.self.inside.starts.now c.index-self-begun.result c.args.second c.begun-begun.result
    c.self.invariant c.begun-begun.ensures (omega arith))
