-- What the plain program is given: a list of points, and a predicate of the second.
-- (Definitions of this project. Seconds are counted from 1970-01-01T00:00:00Z, as in POSIX.)
use Rattle.std.specs.Prelude.{◌≡◌, ◌==◌, ℕ, ◌<◌, ◌^◌, Option, Some, None, List, [], ◌∷◌, Bool, cond}
use Rattle.pw_flow.specs.declared.plain.Point.{Point}

-- the value at a second, where a point of the list stands there
unfoldable pub value_at : List Point → ℕ → Option ℕ
value_at [] t = None
value_at (p ∷ ps) t = cond (p.at == t) (Some p.watt_hours) (value_at ps t)

-- whatever a predicate answers at a second is what `keeps` tells
abbrev pub AnswersBy : (ℕ → Bool → Type 0) → (ℕ → Bool) → Type 0
AnswersBy answer keeps = (t : ℕ) (b : Bool) → t < 2 ^ 32 → answer t b → b ≡ keeps t
