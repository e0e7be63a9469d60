use Rattle.std.proofs.Common.{◌≤◌, take}
use Rattle.pw_model.specs.Counting.{Member}
use Rattle.pw_book.proofs.NewStarts.{Start}
use Rattle.pw_book.proofs.starts.until_next.Given as goal

-- none of those seen stands behind
abbrev pub invariant-loop-start : goal.invariant-loop-start
invariant-loop-start l = (s : Start) → Member s (take l.start-index l.starts) → s.0 ≤ l.from
