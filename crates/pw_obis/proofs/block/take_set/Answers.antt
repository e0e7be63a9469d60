use Rattle.std.proofs.Common.{refl, arith}
use Rattle.pw_obis.proofs.FirstOfSet.{first_of_set}
use Rattle.pw_obis.proofs.Taken.{no_set_left, left_in_line}
use Rattle.pw_obis.proofs.block.take_set.Goals as goal

pub set_end-requires : goal.set_end-requires
set_end-requires c = omega (arith, c.requires.inside)

pub unreachable-requires : goal.unreachable-requires
unreachable-requires c = no_set_left c.args.block.now c.args.place c.requires.set.0.0 c.requires.set.0.1 c.in_default.ensures.none c.requires.set.0.2 c.requires.set.1

pub returns : goal.returns
returns c =
    let w = left_in_line c.args.block.now c.args.place c.in-Some.middle c.in-Some.to c.requires.set.0.0 c.requires.set.0.1 c.in-Some.ensures.some c.requires.set.0.2 c.requires.set.1 in
    let v = first_of_set c.args.block.now c.args.place c.in-Some.middle c.in-Some.to c.in-Some.ensures.some c.in-Some.ensures.within.2 in
    record { first = _; given = record { address_is = refl; values_are = refl; code_is = c.code.ensures; first_value = v.0; first_is = v.1 }; sets = w.sets; refusal = w.refusal; within = w.within }
