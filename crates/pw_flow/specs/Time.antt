-- What stands at seconds, as a function of the second, and sums over seconds.
-- (Definitions of this project, for readings, which stand at an instant, and for owners, who begin at one.)
use Rattle.std.specs.Prelude.{◌≡◌, ℕ, zero, suc, ◌+◌, ◌<◌, ◌≤◌, Option, Some, None, List, map}
use Rattle.std.specs.List.Sorted.{IsStrictlyIncreasing}

-- what stands at second t, before what was found elsewhere
abbrev pub found : {A : Type 0} → ℕ → Option A → Option (ℕ × A) → Option (ℕ × A)
found t (Some a) rest = Some (t, a)
found t None rest = rest

-- the latest that stands at t or before it, with its second
unfoldable pub last : {A : Type 0} → (ℕ → Option A) → ℕ → Option (ℕ × A)
last p zero = found 0 (p 0) None
last p (suc t) = found (suc t) (p (suc t)) (last p t)

-- the earliest that stands at one of the n seconds behind t, with its second
unfoldable pub next : {A : Type 0} → (ℕ → Option A) → ℕ → ℕ → Option (ℕ × A)
next p t zero = None
next p t (suc n) = found (suc t) (p (suc t)) (next p (suc t) n)

-- the latest at t or before it is a, at second x
pub record IsLast {A : Type 0} (p : ℕ → Option A) (t x : ℕ) (a : A) : Type 0 where
  pub holds : p x ≡ Some a
  pub early : x ≤ t
  pub none : (s : ℕ) → x < s → s ≤ t → p s ≡ None

-- the earliest at the n seconds behind t is a, at second y
pub record IsNext {A : Type 0} (p : ℕ → Option A) (t n y : ℕ) (a : A) : Type 0 where
  pub holds : p y ≡ Some a
  pub late : t < y
  pub early : y ≤ t + n
  pub none : (s : ℕ) → t < s → s < y → p s ≡ None

-- each stands later than the one before it; `second` tells when
abbrev pub AreInTime : {A : Type 0} → (A → ℕ) → List A → Type 0
AreInTime second xs = IsStrictlyIncreasing (map second xs)

-- f over the n seconds from x on, added up
unfoldable pub sum_over : (ℕ → ℕ) → ℕ → ℕ → ℕ
sum_over f x zero = 0
sum_over f x (suc n) = sum_over f x n + f (x + n)
