-- What the parts of the reader of addresses answer. It serves `src/address.rt`.
use Rattle.std.specs.Prelude.{◌≡◌, ℕ, ◌<◌, List, ◌∷◌, ◌++◌, slice_index, Option, Some, None}
use Rattle.std.specs.Char.{digit_value}
use Rattle.pw_obis.specs.Address.{Group, Before, Behind}

-- the text begins with a digit (past its end each byte reads 0, which is no digit)
abbrev pub StartsWithDigit : List ℕ → Type 0
StartsWithDigit text = digit_value (slice_index text 0) < 10

-- a group stands first, as long as its digits go
pub record FirstGroup (text : List ℕ) (value : ℕ) (rest : List ℕ) : Type 0 where
  pub digits : List ℕ
  pub group : Group digits value
  pub spelled : text ≡ digits ++ rest
  pub stops : StartsWithDigit rest → ⊥

-- the text begins with a group and this mark
pub record GroupWith (mark : ℕ) (text : List ℕ) : Type 0 where
  pub digits : List ℕ
  pub value : ℕ
  pub rest : List ℕ
  pub group : Group digits value
  pub spelled : text ≡ digits ++ mark ∷ rest

-- what is read of an optional group before its mark: where there is none, none stands there
pub record ReadsBefore (mark : ℕ) (text : List ℕ) (value : Option ℕ) (rest : List ℕ) : Type 0 where
  pub part : List ℕ
  pub is : Before mark part value
  pub spelled : text ≡ part ++ rest
  pub absent : value ≡ None → GroupWith mark rest → ⊥

-- what is read of an optional group behind its mark
pub record ReadsBehind (mark : ℕ) (text : List ℕ) (value : Option ℕ) (rest : List ℕ) : Type 0 where
  pub part : List ℕ
  pub is : Behind mark part value
  pub spelled : text ≡ part ++ rest
  pub absent : value ≡ None → (behind : List ℕ) → rest ≡ mark ∷ behind → ⊥
  pub stops : (number : ℕ) → value ≡ Some number → StartsWithDigit rest → ⊥

-- behind the mark stands no group
pub record Unreadable (mark : ℕ) (text : List ℕ) : Type 0 where
  pub behind : List ℕ
  pub spelled : text ≡ mark ∷ behind
  pub none : (value : ℕ) (rest : List ℕ) → FirstGroup behind value rest → ⊥
