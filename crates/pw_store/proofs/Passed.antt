-- A fault that is passed on as it is: what is known of it is known of what is answered.
use Rattle.std.proofs.Common.{◌≡◌, ◌∙◌, Result, Ok, Err, IfErr, IsErrAnd, MatchResult, sym, subst}
use Rattle.pw_store.specs.declared.fault.OpenFault.{OpenFault}

pub passed : {T : Type 0} {fault : OpenFault} (r : Result T OpenFault) (P : OpenFault → Type 0) → IsErrAnd r (λ e. e ≡ fault) → P fault → IfErr r P
passed (Ok x) P is it = absurd is
passed (Err e) P is it = subst P (sym is) it

-- what was answered where the fault alone was mapped
pub mapped_ok : {T D E : Type 0} (r : Result T E) (s : Result T D) (Q : E → D → Type 0) (x : T) → MatchResult r (λ y. s ≡ Ok y) (λ e. IsErrAnd s (Q e)) → s ≡ Ok x → r ≡ Ok x
mapped_ok (Ok y) s Q x is at = (let same = sym is ∙ at in cc)
mapped_ok (Err e) s Q x is at = absurd (subst (λ t. IsErrAnd t (Q e)) at is)
