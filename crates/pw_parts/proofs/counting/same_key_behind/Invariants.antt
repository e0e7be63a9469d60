use Rattle.std.proofs.Common.{◌≡◌, take}
use Rattle.pw_model.specs.declared.records.Entry.{Entry}
use Rattle.pw_model.specs.Counting.{Member}
use Rattle.pw_parts.proofs.counting.same_key_behind.Given as goal

abbrev pub invariant-loop-i : goal.invariant-loop-i
invariant-loop-i l = (e : Entry) → Member e (take l.i l.others) → e.key ≡ l.first.key
