-- What a function of the second tells, in order.
-- (Definitions of this project.)
use Rattle.std.specs.Prelude.{◌≡◌, ℕ, Option, Some, List}
use Rattle.std.specs.Ordering.{nat_cmp}
use Rattle.std.specs.declared.cmp.Ordering.{Ordering}
use Rattle.pw_model.specs.Lists.{Lists}

-- by the second
abbrev pub by_second : {X : Type 0} → ℕ × X → ℕ × X → Ordering
by_second a b = nat_cmp a.0 b.0

-- each second at which a function tells something, with what it tells, in order
abbrev pub ListsSeconds : {X : Type 0} → (ℕ → Option X) → List (ℕ × X) → Type 0
ListsSeconds told = Lists by_second (λ a. told a.0 ≡ Some a.1)
