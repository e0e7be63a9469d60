use Rattle.std.proofs.Common.{◌≡◌, false, take}
use Rattle.pw_model.specs.Counting.{is_withdrawn}
use Rattle.pw_model.proofs.plain.search.is_withdrawn.Given as goal

abbrev pub invariant-loop-other : goal.invariant-loop-other
invariant-loop-other l = is_withdrawn (take l.other-index l.entries) l.entry ≡ false
