use Rattle.std.proofs.Common.{◌≡◌, ℕ, ◌<◌, get_or}
use Rattle.pw_record.specs.Told.{capital}
use Rattle.pw_record.proofs.meanings.are_alike_in_capitals.Given as goal

abbrev pub invariant-loop-i : goal.invariant-loop-i
invariant-loop-i l = (k : ℕ) → k < l.i → capital (get_or l.one k 0) ≡ capital (get_or l.other k 0)
