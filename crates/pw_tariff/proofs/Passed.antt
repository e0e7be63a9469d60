-- What the exit of a `?` answers.
use Rattle.std.proofs.Common.{◌≡◌, Result, Ok, Err, MatchResult, sym, subst}
use Rattle.std.specs.Result.{IsErrAnd}
use Rattle.pw_tariff.specs.declared.fault.OfficeFault.{OfficeFault}

-- it passes on the fault of which Q holds
pub passed-on : {T : Type 0} {fault : OfficeFault} (P : T → Type 0) (Q : OfficeFault → Type 0) (r : Result T OfficeFault) →
    IsErrAnd r (λ e. e ≡ fault) → Q fault → MatchResult r P Q
passed-on P Q (Ok x) is it = absurd is
passed-on P Q (Err e) is it = subst Q (sym is) it
