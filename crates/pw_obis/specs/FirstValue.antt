-- The first value of a data set. Of a set with several values the first counts: this project's profile.
use Rattle.std.specs.Prelude.{◌≡◌, ℕ, ◌<◌, ◌⊎◌, List, [], ◌∷◌, ◌++◌, length, slice_index}
use Rattle.pw_obis.specs.Bytes.{OPENING, CLOSING}

-- what stands between `(` and the first `)` behind it
pub record FirstValue (values value : List ℕ) : Type 0 where
  pub rest : List ℕ
  pub spelled : values ≡ OPENING ∷ (value ++ CLOSING ∷ rest)
  pub first : (i : ℕ) → i < length value → slice_index value i ≡ CLOSING → ⊥

-- the first value, and the empty text where there is none
abbrev pub IsFirstValue : List ℕ → List ℕ → Type 0
IsFirstValue values value = FirstValue values value ⊎ ((value ≡ []) × ((other : List ℕ) → FirstValue values other → ⊥))
