-- Checks in an order, and the first that fails.
-- (Definitions of this project.)
use Rattle.std.specs.Prelude.{ℕ, Option, Some, None, List, [], ◌∷◌, ◌++◌, length, nat_le, is_some, unwrap_or, Bool, cond}
use Rattle.pw_tariff.specs.declared.fault.OfficeFault.{OfficeFault}
use Rattle.pw_tariff.specs.declared.fault.OfficeFault.TheVariants.{MissingField, Empty, TooMany}

-- what is refused where it doesn't pass
pub record Check : Type 0 where
  pub passes : Bool
  pub fault : OfficeFault

abbrev pub check : OfficeFault → Bool → Check
check fault passes = record { passes = passes; fault = fault }

-- the refusal of the first check that doesn't pass
abbrev pub first_refusal : List Check → Option OfficeFault
first_refusal [] = None
first_refusal (c ∷ checks) = cond c.passes (first_refusal checks) (Some c.fault)

-- the checks of each element in turn, with the names of those before it
unfoldable pub each_in_turn : {A : Type 0} → (A → List ℕ) → (List (List ℕ) → A → List Check) → List (List ℕ) → List A → List Check
each_in_turn name checks earlier [] = []
each_in_turn name checks earlier (x ∷ xs) = checks earlier x ++ each_in_turn name checks (earlier ++ name x ∷ []) xs

-- a list isn't empty, and not too long
abbrev pub length_checks : ℕ → ℕ → List Check
length_checks n most = check Empty (nat_le 1 n) ∷ check TooMany (nat_le n most) ∷ []

-- the checks of a list that has to be there: its length, and then its elements
abbrev pub list_checks : {A : Type 0} → ℕ → (A → List ℕ) → (List (List ℕ) → A → List Check) → Option (List A) → List Check
list_checks most name checks list = let xs = unwrap_or list [] in
    check MissingField (is_some list) ∷ (length_checks (length xs) most ++ each_in_turn name checks [] xs)
