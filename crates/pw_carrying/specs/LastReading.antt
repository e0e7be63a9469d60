-- The latest reading that isn't withdrawn.
-- (Definitions of this project.)
use Rattle.std.specs.Prelude.{ℕ, Option, Some, None, List}
use Rattle.pw_obis.specs.declared.reference.Register.{Register}
use Rattle.pw_model.specs.declared.records.Entry.{Entry}
use Rattle.pw_model.specs.Counting.{Member, standing}
use Rattle.pw_model.specs.Lists.{reading_entry}
use Rattle.pw_moving.specs.Adopting.{AreUpTo}

-- a reading of the set that isn't withdrawn was taken at a second
abbrev pub IsReadAt : List Entry → ℕ → Type 0
IsReadAt s t = (m : ℕ) × (r : Register) × (w : ℕ) × Member (reading_entry m r t w) (standing s)

-- where there is a second, it is such a one
abbrev pub IsSuch : (ℕ → Type 0) → Option ℕ → Type 0
IsSuch P None = Unit {0}
IsSuch P (Some t) = P t

-- when the latest reading of a set that isn't withdrawn was taken, whether it counts or not; with none, there is none
pub record IsLastReading (s : List Entry) (last : Option ℕ) : Type 0 where
  pub up_to : AreUpTo last s
  pub there : IsSuch (IsReadAt s) last
