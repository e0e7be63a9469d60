use Rattle.std.proofs.Common.{arith}
use Rattle.pw_tariff.proofs.Starts.{all-begun, next-begins}
use Rattle.pw_tariff.proofs.owners.Owners.next_start.Goals as goal

pub returns-then-begun-self : goal.returns-then-begun-self
returns-then-begun-self c =
    rw (← c.self.view_is) (all-begun c.self.inside.starts.now c.args.second c.args.end c.begun-begun.result (omega arith) c.begun-begun.ensures (omega arith))

pub returns : goal.returns
returns c =
    rw (← c.self.view_is) (next-begins c.self.inside.starts.now c.index-self-begun.result c.args.second c.args.end c.begun-begun.result c.min.result
    c.self.invariant (omega arith) c.begun-begun.ensures (omega (arith, c.begun-begun.ensures.bound)) (let v = c.seconds.ensures.value in omega (arith, v, c.min.ensures)))
