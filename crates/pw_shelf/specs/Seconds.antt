-- What a function of the second tells: in order, and next to a second.
-- (Definitions of this project.)
use Rattle.std.specs.Prelude.{◌≡◌, ◌<◌, ◌≤◌, ℕ, Option, Some, None, List}
use Rattle.pw_model.specs.Lists.{Lists}
pub use Rattle.pw_model.specs.Seconds.{ListsSeconds, by_second}

-- ---- in order
-- each second at which a function tells something, with what it tells, from one second to another, both included
abbrev pub ListsSecondsWithin : {X : Type 0} → ℕ → ℕ → (ℕ → Option X) → List (ℕ × X) → Type 0
ListsSecondsWithin from to told = Lists by_second (λ a. (from ≤ a.0) × (a.0 ≤ to) × (told a.0 ≡ Some a.1))

-- ---- next to a second
-- a is told at x, strictly before t, and nothing between them
pub record IsLatest {X : Type 0} (told : ℕ → Option X) (t x : ℕ) (a : X) : Type 0 where
  pub here : told x ≡ Some a
  pub before : x < t
  pub between : (s : ℕ) → x < s → s < t → told s ≡ None

-- a is told at x, strictly behind t, and nothing between them
pub record IsEarliest {X : Type 0} (told : ℕ → Option X) (t x : ℕ) (a : X) : Type 0 where
  pub here : told x ≡ Some a
  pub behind : t < x
  pub between : (s : ℕ) → t < s → s < x → told s ≡ None

-- the latest that is told strictly before a second, with its second, if there is one
abbrev pub IsBefore : {X : Type 0} → (ℕ → Option X) → ℕ → Option (ℕ × X) → Type 0
IsBefore told t None = (s : ℕ) → s < t → told s ≡ None
IsBefore told t (Some a) = IsLatest told t a.0 a.1

-- the earliest that is told strictly behind a second, with its second, if there is one
abbrev pub IsBehind : {X : Type 0} → (ℕ → Option X) → ℕ → Option (ℕ × X) → Type 0
IsBehind told t None = (s : ℕ) → t < s → told s ≡ None
IsBehind told t (Some a) = IsEarliest told t a.0 a.1
