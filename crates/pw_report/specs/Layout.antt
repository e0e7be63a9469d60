-- Places in a line, instants, and lists put behind one another.
-- (Definitions of this project.)
use Rattle.std.specs.Prelude.{ℕ, zero, suc, ◌-◌, List, [], ◌++◌, length, replicate}
use Rattle.pw_time.specs.Written.{utc_text}

-- ---- places
-- a text in so many places at least, with spaces behind it; a longer text stands whole
abbrev pub left : ℕ → List ℕ → List ℕ
left width text = text ++ replicate (width - length text) 32

-- the same with spaces before it
abbrev pub right : ℕ → List ℕ → List ℕ
right width text = replicate (width - length text) 32 ++ text

-- ---- instants
-- in UTC, as `YYYY-MM-DDThh:mm:ssZ` (ISO 8601)
unfoldable pub instant_text : ℕ → List ℕ
instant_text instant = utc_text instant

-- ---- lists
-- what f gives of 0, of 1, and so on, below n
unfoldable pub listed_below : {X : Type 0} → ℕ → (ℕ → List X) → List X
listed_below zero f = []
listed_below (suc n) f = listed_below n f ++ f n
