use Rattle.std.proofs.Common.{◌++◌, ℕ, List, [], take}
use Rattle.std.specs.List.{flat_map}
use Rattle.pw_report.specs.inner.Rows.{HasText}
use Rattle.pw_report.proofs.rows.tell_each.Given as goal

abbrev pub invariant-loop-value : goal.invariant-loop-value
invariant-loop-value g l = (before : List ℕ) → HasText l.initial.rows before [] → HasText l.rows (before ++ flat_map (g.W.Tells.line l.teller) (take l.value-index l.values)) []
