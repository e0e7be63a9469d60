use Rattle.std.proofs.Common.{◌≡◌, ◌+◌, ◌++◌, drop}
use Rattle.pw_bills.specs.inner.Naming.{named_from}
use Rattle.pw_bills.proofs.stretches.named.Given as goal

-- the starts so far, with those of the stretches still to come
abbrev pub invariant-loop-number : goal.invariant-loop-number
invariant-loop-number l =
    l.named.items ++ named_from l.starts l.stretches.account l.number (drop l.number l.stretches.begins.now) (l.stretches.last + 1) ≡ named_from l.starts l.stretches.account 0 l.stretches.begins.now (l.stretches.last + 1)
