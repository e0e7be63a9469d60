-- How the difference between two readings flows over the seconds between them.
-- (Definitions of this project. DSMR P1 Companion Standard 5.0.2 gives a register's value at the instant of a telegram, in
-- kilowatt-hours with three decimals, so in whole watt-hours, and says nothing of the time between.)
use Rattle.std.specs.Prelude.{◌≡◌, ℕ, ◌+◌, ◌-◌, ◌*◌, ◌/◌, ◌<◌, ◌≤◌, Option, Some, None, cond, nat_le}
use Rattle.pw_flow.specs.Time.{last, next, sum_over}

-- A point is a second with the value of the reading there. `points` gives the value of the counting reading of one
-- register at a second, where there is one.

-- value w at x and value v at y are neighbours: the first is earlier, and nothing stands strictly between
pub record AreNeighbours (points : ℕ → Option ℕ) (x w y v : ℕ) : Type 0 where
  pub earlier : x < y
  pub first : points x ≡ Some w
  pub second : points y ≡ Some v
  pub between : (s : ℕ) → x < s → s < y → points s ≡ None

-- the level at t on the straight line from value w at x to value v at y, in whole watt-hours (rounded down)
unfoldable pub level : ℕ → ℕ → ℕ → ℕ → ℕ → ℕ
level x w y v t = w + (v - w) * (t - x) / (y - x)

-- what second t carries between two points: what the level rises by, and nothing where they fall
unfoldable pub pair_flow : ℕ × ℕ → ℕ × ℕ → ℕ → ℕ
pair_flow a b t = cond (nat_le a.1 b.1) (level a.0 a.1 b.0 b.1 (t + 1) - level a.0 a.1 b.0 b.1 t) 0

-- between a point that may be there and one that may be there
abbrev pub flow_between : Option (ℕ × ℕ) → Option (ℕ × ℕ) → ℕ → ℕ
flow_between (Some a) (Some b) t = pair_flow a b t
flow_between (Some a) None t = 0
flow_between None b t = 0

-- what second t carries of a register; points are seen up to and with second end, and none behind it
unfoldable pub flow : (ℕ → Option ℕ) → ℕ → ℕ → ℕ
flow points end t = flow_between (last points t) (next points t (end - t)) t

-- second t lies between neighbours: value w at x, value v at y
pub record IsSpanned (points : ℕ → Option ℕ) (end t x w y v : ℕ) : Type 0 where
  pub neighbours : AreNeighbours points x w y v
  pub seen : y ≤ end
  pub begun : x ≤ t
  pub under_way : t < y

-- what a point and the next one rise by: nothing where they fall
abbrev pub rise_between : Option ℕ → Option (ℕ × ℕ) → ℕ
rise_between (Some w) (Some b) = b.1 - w
rise_between (Some w) None = 0
rise_between None b = 0

-- the rise from the point at a second, where one stands there, to the next
abbrev pub rise_at : (ℕ → Option ℕ) → ℕ → ℕ → ℕ
rise_at points end t = rise_between (points t) (next points t (end - t))

-- the rises of all neighbours up to end
unfoldable pub rises : (ℕ → Option ℕ) → ℕ → ℕ
rises points end = sum_over (rise_at points end) 0 end
