-- What rows tell by the second, as a query shows them: a second, and what is told at it. It serves `src/points.rt`,
-- `src/starts.rt`, `src/row_values.rt` and `src/waiting.rt`.
-- (Definitions of this project.)
use Rattle.std.specs.Prelude.{◌≡◌, ◌<◌, ◌≤◌, ◌⊎◌, ℕ, Option, Some, None, List, [], ◌∷◌, codes}
use Rattle.sqlite.specs.Order.{Row, column}
use Rattle.pw_obis.specs.declared.reference.Register.{Register}
use Rattle.pw_tariff.specs.declared.ids.AccountId.{AccountId}
use Rattle.pw_shelf.specs.Seconds.{IsBefore, IsBehind}
use Rattle.pw_schema.specs.Rows.{number, owner_at}
use Rattle.pw_store.specs.Waiting.{Points, points_over}
use Rattle.pw_store.specs.declared.waiting.WaitingPoint.{WaitingPoint}
use Rattle.pw_store.specs.declared.points.Side.{Side}
use Rattle.pw_store.specs.declared.points.Side.TheVariants.{Before, Behind}

-- a second and watt-hours
abbrev pub point_told : Row → ℕ × ℕ
point_told r = (number (column r 0), number (column r 1))

-- a second and an owner
abbrev pub start_told : Row → ℕ × Option AccountId
start_told r = (number (column r 0), owner_at (number (column r 1)))

-- the first, if there is one
abbrev pub first_point : List Row → Option (ℕ × ℕ)
first_point [] = None
first_point (r ∷ rows) = Some (point_told r)

-- the amount in the only column of the first row; 0 where there is none
abbrev pub first_amount : List Row → ℕ
first_amount [] = 0
first_amount (r ∷ rows) = number (column r 0)

-- ---- on a side of an instant
abbrev pub instant_of : Side → ℕ
instant_of (Before t) = t
instant_of (Behind t) = t

-- the text that asks for the nearest point
abbrev pub nearest_text : Side → List ℕ
nearest_text (Before t) = codes "SELECT instant, wh FROM point WHERE meter = ?1 AND register = ?2 AND instant < ?3 ORDER BY instant DESC LIMIT 1"
nearest_text (Behind t) = codes "SELECT instant, wh FROM point WHERE meter = ?1 AND register = ?2 AND instant > ?3 ORDER BY instant LIMIT 1"

-- strictly on it, and the nearest; nothing where none is there
abbrev pub IsNearest : Side → (ℕ → Option ℕ) → Option (ℕ × ℕ) → Type 0
IsNearest (Before t) told found = IsBefore told t found
IsNearest (Behind t) told found = IsBehind told t found

-- a second is strictly on it, and no farther than what was found
abbrev pub IsNearer : Side → ℕ → Option (ℕ × ℕ) → Type 0
IsNearer (Before t) x None = x < t
IsNearer (Before t) x (Some a) = (x < t) × (a.0 ≤ x)
IsNearer (Behind t) x None = t < x
IsNearer (Behind t) x (Some a) = (t < x) × (x ≤ a.0)

-- it isn't on it, or is farther
abbrev pub IsFarther : Side → ℕ → Option (ℕ × ℕ) → Type 0
IsFarther (Before t) x None = t ≤ x
IsFarther (Before t) x (Some a) = (t ≤ x) ⊎ (x < a.0)
IsFarther (Behind t) x None = x ≤ t
IsFarther (Behind t) x (Some a) = (x ≤ t) ⊎ (a.0 < x)

-- of points that wait, none is of a register from one second to another, both included: nothing is told otherwise there
abbrev pub NoneWithin : List WaitingPoint → ℕ → Register → ℕ → ℕ → Type 0
NoneWithin waiting m r from to = (points : Points) (t : ℕ) → from ≤ t → t ≤ to → points_over waiting points m r t ≡ points m r t
