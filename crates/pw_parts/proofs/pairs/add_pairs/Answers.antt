use Rattle.std.proofs.Common.{arith, rules}
use Rattle.std.specs.Slice.Iter.{windows_rest}
use Rattle.pw_parts.proofs.Gathering.{pairs-ended-for}
use Rattle.pw_parts.proofs.pairs.add_pairs.Goals as goal

pub returns-clause-gathered : goal.returns-clause-gathered
returns-clause-gathered c = λ r k.
    let so_far = c.loop-pair.invariant.told r k in
    let ended = pairs-ended-for c.args.office.now c.args.owners.now c.args.direction (windows_rest c.loop-pair.pair-iterator) k (omega (arith, c.in-None.ensures.steps.1.0)) in
    omega (arith, so_far, ended)

pub add_cells-requires-clause-in_order : goal.add_cells-requires-clause-in_order
add_cells-requires-clause-in_order c = search rules depth 0 fits 100
