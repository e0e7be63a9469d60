use Rattle.std.proofs.Common.{◌≡◌, length}
use Rattle.pw_shelf.specs.Added.{without}
use Rattle.pw_shelf.proofs.held.Held.go_back.Given as goal

abbrev pub invariant-loop-entry : goal.invariant-loop-entry
invariant-loop-entry l = without l.self.added.items l.self.records.keys
    ≡ without l.initial.self.added.items l.initial.self.records.keys

abbrev pub decreases-loop-entry : goal.decreases-loop-entry
decreases-loop-entry l = length l.self.added.items
