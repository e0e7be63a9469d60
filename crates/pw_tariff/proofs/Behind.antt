-- What passes, part by part.
use Rattle.std.proofs.Common.{◌≡◌, Option, Some, None, List, [], ◌∷◌, ◌++◌, Bool, true, false, cond, refl, sym, ◌∙◌}
use Rattle.pw_tariff.specs.declared.fault.OfficeFault.{OfficeFault}
use Rattle.pw_tariff.specs.Checks.{Check, first_refusal}
use Rattle.pw_tariff.specs.inner.Checks.{Passes}
use Rattle.pw_tariff.proofs.Order.{first-passes}

no-refusal : {A : Type 0} (x : A) → Some x ≡ None → ⊥
no-refusal x h = cc

head : (b : Bool) (f : OfficeFault) (n : Option OfficeFault) → cond b n (Some f) ≡ None → (b ≡ true) × (n ≡ None)
head true f n h = (refl, h)
head false f n h = absurd (no-refusal f h)

-- the first of two lists of checks passes, and so does the second
pub left : (a b : List Check) → Passes (a ++ b) → Passes a
left [] b p = refl
left (c ∷ a) b p = let h = head c.passes c.fault (first_refusal (a ++ b)) p in rw h.0 (left a b h.1)

pub right : (a b : List Check) → Passes (a ++ b) → Passes b
right a b p = sym (first-passes a b (left a b p)) ∙ p

pub first-of : (c : Check) (cs : List Check) → Passes (c ∷ cs) → (c.passes ≡ true) × Passes cs
first-of c cs p = head c.passes c.fault (first_refusal cs) p
