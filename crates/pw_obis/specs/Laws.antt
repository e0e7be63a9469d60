-- What holds of the definitions themselves.
use Rattle.std.specs.Prelude.{◌≡◌, ℕ, List, Option}
use Rattle.pw_obis.specs.Line.{SetText}
use Rattle.pw_obis.specs.Block.{HasSets}

-- there is an answer, and no other
pub record ExactlyOne {A : Type 0} (Is : A → Type 0) : Type 0 where
  pub answer : A
  pub holds : Is answer
  pub only : (other : A) → Is other → answer ≡ other

-- the list of sets of a block, and the refusal behind them, if any
abbrev pub IsOutcome : List ℕ → List SetText × Option ℕ → Type 0
IsOutcome block outcome = HasSets block outcome.0 outcome.1
