-- The code of an address.
-- IEC 62056-6-1: value groups A to F; IEC 62056-21: the reduced form `C.D` of an address.
-- That each group is one to three digits, and that F stands behind `*` or `&`, is this project's profile.
use Rattle.std.specs.Prelude.{◌≡◌, ℕ, ◌<◌, ◌≤◌, ◌⊎◌, List, [], ◌∷◌, ◌++◌, length, Option, Some, None}
use Rattle.std.specs.Str.Parse.{digits_value, AllDigits}
use Rattle.pw_obis.specs.declared.reference.Code.{Code}
use Rattle.pw_obis.specs.Bytes.{AMPERSAND, STAR, DASH, DOT, COLON}

-- one to three digits, of a value up to 255
pub record Group (text : List ℕ) (value : ℕ) : Type 0 where
  pub digits : AllDigits 10 text
  pub some : 0 < length text
  pub few : length text ≤ 3
  pub is : value ≡ digits_value 10 text
  pub small : value ≤ 255

-- a group with its mark behind it, or nothing
abbrev pub Before : ℕ → List ℕ → Option ℕ → Type 0
Before mark text None = text ≡ []
Before mark text (Some value) = (digits : List ℕ) × Group digits value × (text ≡ digits ++ mark ∷ [])

-- a group with its mark in front of it, or nothing
abbrev pub Behind : ℕ → List ℕ → Option ℕ → Type 0
Behind mark text None = text ≡ []
Behind mark text (Some value) = (digits : List ℕ) × Group digits value × (text ≡ mark ∷ digits)

-- an optional `*F` or `&F`
abbrev pub Storage : List ℕ → Option ℕ → Type 0
Storage text f = Behind STAR text f ⊎ Behind AMPERSAND text f

-- `D`, an optional `.E`, an optional `*F` or `&F`
pub record AddressEnding (text : List ℕ) (value : ℕ) (e f : Option ℕ) : Type 0 where
  pub d_text : List ℕ
  pub e_text : List ℕ
  pub f_text : List ℕ
  pub d_is : Group d_text value
  pub e_is : Behind DOT e_text e
  pub f_is : Storage f_text f
  pub spelled : text ≡ d_text ++ (e_text ++ f_text)

-- an optional `A-`, an optional `B:`, then `C.`, and the ending
pub record Spells (address : List ℕ) (code : Code) : Type 0 where
  pub a_text : List ℕ
  pub b_text : List ℕ
  pub c_text : List ℕ
  pub ending : List ℕ
  pub a_is : Before DASH a_text code.a
  pub b_is : Before COLON b_text code.b
  pub c_is : Before DOT c_text (Some code.c)
  pub rest_is : AddressEnding ending code.d code.e code.f
  pub spelled : address ≡ a_text ++ (b_text ++ (c_text ++ ending))

-- the code of an address, or none
abbrev pub IsCodeOf : List ℕ → Option Code → Type 0
IsCodeOf address (Some code) = Spells address code
IsCodeOf address None = (code : Code) → Spells address code → ⊥
