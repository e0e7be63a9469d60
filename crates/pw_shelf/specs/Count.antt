-- What is known of a counting shelf.
-- (Definitions of this project.)
use Rattle.std.specs.Prelude.{ℕ, ◌+◌, ◌-◌, ◌^◌, min}
use Rattle.pw_shelf.specs.State.{State}

-- as the inner shelf, with the calls that it refused itself, and those of `abandon` among them
abbrev pub with_refused : State → ℕ → ℕ → State
with_refused inner refused abandons = record inner {
  failures = inner.failures + refused;
  failed_abandons = inner.failed_abandons + abandons;
  tally = inner.tally + refused;
}

-- the calls made and the rows given between two states, up to the greatest number of 64 bits
abbrev pub rise_told : State → State → ℕ
rise_told made now = min (now.tally - made.tally) (2 ^ 64 - 1)
