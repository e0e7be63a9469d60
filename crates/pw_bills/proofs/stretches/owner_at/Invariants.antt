use Rattle.std.proofs.Common.{◌≡◌, None, drop}
use Rattle.pw_bills.specs.inner.Naming.{owner_begun}
use Rattle.pw_bills.proofs.stretches.owner_at.Given as goal

-- the owner so far, where those still to come decide as all do
abbrev pub invariant-loop-start : goal.invariant-loop-start
invariant-loop-start l = owner_begun l.owner (drop l.start-index l.starts) l.instant ≡ owner_begun None l.starts l.instant
