-- What the reader of a block answers.
use Rattle.std.specs.Prelude.{◌≡◌, ℕ, List, [], ◌∷◌, Option, Some, None, Result, Ok, Err}
use Rattle.pw_obis.specs.Address.{IsCodeOf}
use Rattle.pw_obis.specs.FirstValue.{FirstValue}
use Rattle.pw_obis.specs.Line.{SetText}
use Rattle.pw_obis.specs.Coming.{Coming, nothing}
use Rattle.pw_obis.specs.declared.data_set.Set.{Set}
use Rattle.pw_obis.specs.declared.fault.LineFault.{LineFault}

-- a set that is given is one of the block, with the code of its address; it has a first value
pub record IsGiven (text : SetText) (set : Set) : Type 0 where
  pub address_is : text.address ≡ set.address.now
  pub values_are : text.values ≡ set.values.now
  pub code_is : IsCodeOf set.address.now set.code
  pub first_value : List ℕ
  pub first_is : FirstValue set.values.now first_value

-- Of sets that can't be refused the answer is the first to come, and takes it away, or nothing, where none is.
abbrev pub Gives : List SetText → Option Set → List SetText → Type 0
Gives old (Some set) new = (first : SetText) × IsGiven first set × (old ≡ first ∷ new)
Gives old None new = (old ≡ []) × (new ≡ [])

-- The answer is the first of what is to come, and takes it away: a set, or the refusal behind the sets, or nothing.
abbrev pub Answers : Coming → Option (Result Set LineFault) → Coming → Type 0
Answers old (Some (Ok set)) new = (first : SetText) × IsGiven first set × (old.sets ≡ first ∷ new.sets) × (old.refusal ≡ new.refusal)
Answers old (Some (Err fault)) new = (old.sets ≡ []) × (old.refusal ≡ Some fault.at) × (new ≡ nothing)
Answers old None new = (old ≡ nothing) × (new ≡ nothing)
