-- A result whose value is known.
use Rattle.std.proofs.Common.{◌≡◌, Result, Ok, Err, IfOk, OnOk, sym, subst}

pub at_ok : {A E : Type 0} (Q : A → Type 0) (r : Result A E) (b : A) → IfOk r (λ a. a ≡ b) → Q b → IfOk r Q
at_ok Q (Err e) b same holds = tt
at_ok Q (Ok a) b same holds = subst Q (sym same) holds

pub at_ok_where : {A E X : Type 0} (Q : A → Type 0) (r : Result A E) (b : A) → IfOk r (λ a. a ≡ b) → OnOk r X → (X → Q b) → IfOk r Q
at_ok_where Q (Err e) b same told holds = tt
at_ok_where Q (Ok a) b same told holds = subst Q (sym same) (holds told)
