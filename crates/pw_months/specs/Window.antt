-- What a book has to ask of a store for an interval: the points of the interval with one neighbour on each side, and
-- the owners within it. No pair is cut: what a pair gives goes by the levels of the whole pair.
-- (Laws of this project.)
use Rattle.std.specs.Prelude.{◌≡◌, ◌==◌, ◌&&◌, ◌⊎◌, ℕ, ◌<◌, ◌≤◌, Bool, Option, Some, None, List, ◌∷◌, cond}
use Rattle.pw_tariff.specs.declared.ids.AccountId.{AccountId}
use Rattle.pw_tariff.specs.Office.{OfficeFile}
use Rattle.pw_tariff.specs.Owners.{owner_by_starts, same_owner}
use Rattle.pw_tariff.specs.Shares.{class_seconds}
use Rattle.pw_flow.specs.Energy.{cell, register_energy}
use Rattle.pw_flow.specs.Pairs.{Chain, last_of, pairs_sum}
use Rattle.pw_model.specs.Energy.{account}
use Rattle.pw_months.specs.Between.{lies_in}

-- the seconds of an interval that are kept
abbrev pub kept_in : ℕ → ℕ → (ℕ → Bool) → ℕ → Bool
kept_in x y keeps t = lies_in x y t && keeps t

-- a chain of points covers the interval: it begins where the interval does or before, or with the first point, and ends
-- where it does or behind, or with the last point
pub record Spans (points : ℕ → Option ℕ) (x y : ℕ) (a : ℕ × ℕ) (ps : List (ℕ × ℕ)) : Type 0 where
  pub chain : Chain points a ps
  pub begins : (a.0 ≤ x) ⊎ ((s : ℕ) → s < a.0 → points s ≡ None)
  pub ends : (y ≤ (last_of a ps).0) ⊎ ((s : ℕ) → (last_of a ps).0 < s → points s ≡ None)

-- then its pairs give the whole energy of the interval
abbrev pub PairsOfIntervalAreEnough : Type 0
PairsOfIntervalAreEnough = (keeps : ℕ → Bool) (points : ℕ → Option ℕ) (end x y : ℕ) (a : ℕ × ℕ) (ps : List (ℕ × ℕ)) →
    Spans points x y a ps → (last_of a ps).0 < end →
    register_energy (kept_in x y keeps) points end ≡ pairs_sum (kept_in x y keeps) (a ∷ ps)

-- the owners within an interval, and nobody before it and behind it
abbrev pub AreCut : ℕ → ℕ → List (ℕ × Option AccountId) → List (ℕ × Option AccountId) → Type 0
AreCut x y starts within = (t : ℕ) → owner_by_starts within t ≡ cond (lies_in x y t) (owner_by_starts starts t) None

-- what a pair gives an account under owners cut to an interval is what it gives it in the interval
abbrev pub CutOwnersCutShares : Type 0
CutOwnersCutShares = (file : OfficeFile) (starts within : List (ℕ × Option AccountId)) (x y : ℕ) →
    AreCut x y starts within → (a : AccountId) (period band p w q v : ℕ) →
    cell (class_seconds file within (Some a) period band) (p, w) (q, v)
    ≡ cell (kept_in x y (class_seconds file starts (Some a) period band)) (p, w) (q, v)

-- the day of each second of an account within an interval, as the number of an account, and nobody else
abbrev pub NameDays : (ℕ → ℕ) → ℕ → ℕ → AccountId → List (ℕ × Option AccountId) → List (ℕ × Option AccountId) → Type 0
NameDays day x y a starts named =
    (t : ℕ) → owner_by_starts named t
    ≡ cond (lies_in x y t && same_owner (owner_by_starts starts t) (Some a)) (Some (account (day t))) None

-- what a pair gives the account of that number is what it gives the account on that day
abbrev pub NamedDaysShare : Type 0
NamedDaysShare = (file : OfficeFile) (starts named : List (ℕ × Option AccountId)) (day : ℕ → ℕ) (x y : ℕ)
    (a : AccountId) → NameDays day x y a starts named → (i period band p w q v : ℕ) →
    cell (class_seconds file named (Some (account i)) period band) (p, w) (q, v)
    ≡ cell (kept_in x y (λ t. (day t == i) && class_seconds file starts (Some a) period band t)) (p, w) (q, v)
