use Rattle.std.proofs.Common.{◌≡◌, take}
use Rattle.std.specs.List.{filter_map}
use Rattle.pw_parts.specs.inner.Counted.{given}
use Rattle.pw_parts.proofs.by_second.starts_given.Given as goal

abbrev pub invariant-loop-entry : goal.invariant-loop-entry
invariant-loop-entry l = l.told.items ≡ filter_map given (take l.entry-index l.records)
