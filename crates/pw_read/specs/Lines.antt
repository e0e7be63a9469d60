-- What is printed of a data set: a line where its code is one that is read, and else nothing.
use Rattle.std.specs.Prelude.{◌≡◌, ℕ, ◌⊎◌, List, [], ◌∷◌, ◌++◌, Some, Result, Ok, Err, codes, decimal}
use Rattle.pw_frame.specs.declared.frame.Kind.{Kind}
use Rattle.pw_frame.specs.declared.frame.Kind.TheVariants.{Telegram, Readout}
use Rattle.pw_obis.specs.declared.reference.Code.{Code}
use Rattle.pw_obis.specs.declared.reference.Register.{Register}
use Rattle.pw_obis.specs.declared.value.ValueFault.{ValueFault}
use Rattle.pw_obis.specs.Address.{IsCodeOf}
use Rattle.pw_obis.specs.FirstValue.{IsFirstValue}
use Rattle.pw_obis.specs.Line.{SetText}
use Rattle.pw_obis.specs.References.{IsCodeOfRegister, IsIdentifier, IsStamp, IsTime, IsDate}
use Rattle.pw_obis.specs.Registers.{register_name}
use Rattle.pw_obis.specs.Value.{IsEnergy}

-- a name, a space, a value and LF
abbrev pub line_of : List ℕ → List ℕ → List ℕ
line_of name value = name ++ codes " " ++ value ++ codes "\n"

-- the name under which a value is printed as it stands: identifier and stamp are of telegrams, time and date of readouts
abbrev pub IsTextName : Kind → Code → List ℕ → Type 0
IsTextName Telegram code name = (IsIdentifier code × (name ≡ codes "meter")) ⊎ (IsStamp code × (name ≡ codes "stamp"))
IsTextName Readout code name = (IsTime code × (name ≡ codes "time")) ⊎ (IsDate code × (name ≡ codes "date"))

-- the set's first value is printed as it stands
pub record TextLine (kind : Kind) (set : SetText) (line : List ℕ) : Type 0 where
  pub code : Code
  pub name : List ℕ
  pub value : List ℕ
  pub code_is : IsCodeOf set.address (Some code)
  pub name_is : IsTextName kind code name
  pub value_is : IsFirstValue set.values value
  pub line_is : line ≡ line_of name value

-- the set is of a register, and so much is what its first value states, or what is wrong with it
pub record Measures (set : SetText) (register : Register) (energy : Result ℕ ValueFault) : Type 0 where
  pub code : Code
  pub value : List ℕ
  pub code_is : IsCodeOf set.address (Some code)
  pub register_is : IsCodeOfRegister register code
  pub value_is : IsFirstValue set.values value
  pub energy_is : IsEnergy value energy

-- the register's energy in Wh is printed
pub record EnergyLine (set : SetText) (line : List ℕ) : Type 0 where
  pub register : Register
  pub energy : ℕ
  pub measures : Measures set register (Ok energy)
  pub line_is : line ≡ line_of (register_name register) (decimal energy)

-- the set has no code, or one that isn't read
pub record Unread (kind : Kind) (set : SetText) (line : List ℕ) : Type 0 where
  pub no_name : (code : Code) (name : List ℕ) → IsCodeOf set.address (Some code) → IsTextName kind code name → ⊥
  pub no_register : (code : Code) (register : Register) → IsCodeOf set.address (Some code) → IsCodeOfRegister register code → ⊥
  pub line_is : line ≡ []

-- what is printed of a set, or what is wrong with its value
abbrev pub SetShows : Kind → SetText → Result (List ℕ) ValueFault → Type 0
SetShows kind set (Ok line) = TextLine kind set line ⊎ (EnergyLine set line ⊎ Unread kind set line)
SetShows kind set (Err fault) = (register : Register) × Measures set register (Err fault)

-- what is printed of sets, one after the other
abbrev pub SetsShow : Kind → List SetText → List ℕ → Type 0
SetsShow kind [] text = text ≡ []
SetsShow kind (set ∷ sets) text =
    (line : List ℕ) × (more : List ℕ) × SetShows kind set (Ok line) × SetsShow kind sets more × (text ≡ line ++ more)
