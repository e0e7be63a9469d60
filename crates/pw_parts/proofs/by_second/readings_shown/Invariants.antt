use Rattle.std.proofs.Common.{◌≡◌, take}
use Rattle.std.specs.List.{filter_map}
use Rattle.pw_parts.specs.Shown.{shown}
use Rattle.pw_parts.proofs.by_second.readings_shown.Given as goal

abbrev pub invariant-loop-entry : goal.invariant-loop-entry
invariant-loop-entry l = l.told.items ≡ filter_map shown (take l.entry-index l.records)
