use Rattle.std.proofs.Common.{◌≡◌, ◌++◌, map, take}
use Rattle.std.specs.List.{filter}
use Rattle.pw_bills.specs.inner.Naming.{is_behind, name_in, renamed}
use Rattle.pw_bills.proofs.stretches.add_stretch.Given as goal

abbrev pub invariant-loop-start : goal.invariant-loop-start
invariant-loop-start l =
    l.named.items ≡ l.initial.named.items ++ map (renamed (name_in l.account l.number)) (filter (is_behind l.from l.until) (take l.start-index l.starts))
