use Rattle.std.proofs.Common.{ℕ, List, [], take}
use Rattle.std.specs.Prelude.{map}
use Rattle.pw_report.specs.inner.Rows.{HasText}
use Rattle.pw_report.proofs.rows.Rows.put_header.Given as goal

abbrev pub invariant-loop-name : goal.invariant-loop-name
invariant-loop-name l = (text : List ℕ) → HasText l.initial.self text [] → HasText l.self text (map (λ name. name.now) (take l.name-index l.names))
