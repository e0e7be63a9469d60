use Rattle.std.proofs.Common.{◌≡◌, false, take}
use Rattle.pw_model.specs.Payments.{keys, stands_in}
use Rattle.pw_model.specs.Same.{same_key}
use Rattle.pw_model.specs.inner.Search.{paying}
use Rattle.pw_model.proofs.plain.payments.has_payment.Given as goal

abbrev pub invariant-loop-entry : goal.invariant-loop-entry
invariant-loop-entry l = stands_in same_key l.key (keys (paying l.account.0 (take l.entry-index l.entries))) ≡ false
