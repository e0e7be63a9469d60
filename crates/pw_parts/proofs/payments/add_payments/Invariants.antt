use Rattle.std.proofs.Common.{◌≡◌, ◌+◌, drop}
use Rattle.pw_model.specs.declared.records.TotalKey.{TotalKey}
use Rattle.pw_parts.specs.inner.Given.{payments_given}
use Rattle.pw_parts.specs.inner.Totals.{total_in}
use Rattle.pw_parts.proofs.payments.add_payments.Given as goal

-- what the top-ups so far gave, with what is still to come
abbrev pub invariant-loop-entry : goal.invariant-loop-entry
invariant-loop-entry l = (k : TotalKey) → total_in l.totals.rows k + payments_given (drop l.entry-index l.top_ups) k ≡ total_in l.initial.totals.rows k + payments_given l.top_ups k
