use Rattle.std.proofs.Common.{◌≡◌, take}
use Rattle.pw_model.specs.Counting.{standing_among}
use Rattle.pw_model.proofs.plain.standing.standing_among.Given as goal

abbrev pub invariant-loop-entry : goal.invariant-loop-entry
invariant-loop-entry l = l.all.items ≡ standing_among l.in_order (take l.entry-index l.in_order)
