use Rattle.std.proofs.Common.{ℕ, ◌<◌, subst}
use Rattle.pw_obis.specs.declared.energy.TheConstants.{LARGEST_WATT_HOURS}
use Rattle.pw_obis.proofs.Decimals.{past_most}
use Rattle.pw_obis.proofs.texts.with_digits.Goals as goal

pub returns-then-value-gt-LARGEST_WATT_HOURS-clause-none : goal.returns-then-value-gt-LARGEST_WATT_HOURS-clause-none
returns-then-value-gt-LARGEST_WATT_HOURS-clause-none c =
    let i = c.loop-b.invariant in
    subst (λ (n : ℕ). LARGEST_WATT_HOURS < n) i.1 (past_most LARGEST_WATT_HOURS c.args.digits.now c.loop-b.b-index c.loop-b.value c.loop-b-test.true i.2 c.if-value-gt-LARGEST_WATT_HOURS.true)
