-- What is still to come of a block's sets.
use Rattle.std.specs.Prelude.{ℕ, ◌<◌, ◌≤◌, ◌⊎◌, List, [], length, Option, None}
use Rattle.std.proofs.Common.{inl, inr, arith}
use Rattle.std.proofs.lemmas.Bool.{cases_lt}
use Rattle.pw_obis.specs.Block.{StopsAt}
use Rattle.pw_obis.specs.Line.{SetText}
use Rattle.pw_obis.specs.lemmas.Found.{found, FromPlace}

-- the sets still to come, and the refusal behind them, if any
pub record Coming : Type 0 where
  pub sets : List SetText
  pub refusal : Option ℕ

abbrev pub nothing : Coming
nothing = record { sets = []; refusal = None }

unfoldable pub from_choice : (block : List ℕ) (place : ℕ) → (length block < place) ⊎ (place ≤ length block) → Coming
from_choice block place (inl past) = nothing
from_choice block place (inr within) =
    let there : FromPlace block place = found block (length block) place within (omega arith) in
    record { sets = there.sets; refusal = there.refusal }

-- what stands from a place of a block on
unfoldable pub from_place : List ℕ → ℕ → Coming
from_place block place = from_choice block place (cases_lt (length block) place)

-- from a place on, at a line or behind a set in one, lines stand up to `stop`: the block's end, or its first bad line
abbrev pub AreLinesUpTo : List ℕ → ℕ → ℕ → Type 0
AreLinesUpTo block place stop = (place ≤ length block) × StopsAt block stop (from_place block place).refusal
