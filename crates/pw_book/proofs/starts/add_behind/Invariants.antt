use Rattle.std.proofs.Common.{◌≡◌, ◌++◌, nat_lt, take}
use Rattle.std.specs.List.{filter}
use Rattle.pw_book.proofs.starts.add_behind.Given as goal

abbrev pub invariant-loop-held : goal.invariant-loop-held
invariant-loop-held l = l.with.items ≡ l.initial.with.items ++ filter (λ s. nat_lt l.start s.0) (take l.held-index l.starts)
