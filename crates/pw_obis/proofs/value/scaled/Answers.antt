use Rattle.std.proofs.Common.{ℕ, ◌≡◌, ◌<◌, ◌≤◌, subst}
use Rattle.std.specs.Prelude.{IfSome, IfNone}
use Rattle.pw_obis.specs.declared.energy.TheConstants.{LARGEST_WATT_HOURS}
use Rattle.pw_obis.proofs.Decimals.{big_at, big_whole, scaled_is}
use Rattle.pw_obis.proofs.value.scaled.Goals as goal

pub returns-in_err-kilo-clause-none : goal.returns-in_err-kilo-clause-none
returns-in_err-kilo-clause-none c =
    rw c.from_residual.ensures (big_whole c.args.whole.now c.args.decimals.now c.requires.decimals c.in_err-kilo.ensures.none)

pub returns-in_err-number-clause-none : goal.returns-in_err-number-clause-none
returns-in_err-number-clause-none c =
    rw c.from_residual-in_err-number.ensures
    (big_at c.args.whole.now c.args.decimals.now c.in_ok-kilo.kilo c.min.result c.requires.decimals c.in_ok-kilo.ensures.some.0 c.min.ensures c.in_err-number.ensures.none)

pub returns-clause-none : goal.returns-clause-none
returns-clause-none c =
    subst (λ (n : ℕ). IfNone c.of.result (LARGEST_WATT_HOURS < n))
    (scaled_is c.args.whole.now c.args.decimals.now c.in_ok-kilo.kilo c.min.result _ _ c.requires.decimals c.in_ok-kilo.ensures.some.0 c.min.ensures c.in_ok-number.ensures.some.0 c.place_value.ensures.value)
    c.of.ensures.none

pub returns-clause-some : goal.returns-clause-some
returns-clause-some c =
    subst (λ (n : ℕ). IfSome c.of.result (λ energy. (energy ≡ n) × (energy ≤ LARGEST_WATT_HOURS)))
    (scaled_is c.args.whole.now c.args.decimals.now c.in_ok-kilo.kilo c.min.result _ _ c.requires.decimals c.in_ok-kilo.ensures.some.0 c.min.ensures c.in_ok-number.ensures.some.0 c.place_value.ensures.value)
    c.of.ensures.some
