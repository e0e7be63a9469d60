-- The owners of a meter, under the numbers of stretches of time. It serves `src/stretches.rt` and `src/gathering.rt`.
-- (Definitions of this project.)
use Rattle.std.specs.Prelude.{◌≡◌, ◌&&◌, ℕ, ◌+◌, ◌<◌, nat_le, nat_lt, Bool, cond, Option, Some, None, List, [], ◌∷◌, ◌++◌, length, map, slice_index}
use Rattle.std.specs.List.{filter}
use Rattle.std.specs.Option.{is_some}
use Rattle.pw_time.specs.declared.instant.TheConstants.{END_SECOND}
use Rattle.pw_tariff.specs.declared.ids.AccountId.{AccountId}
use Rattle.pw_tariff.specs.Owners.{owner_by_starts, same_owner}
use Rattle.pw_model.specs.declared.records.Key.{Key}
use Rattle.pw_model.specs.declared.records.Contents.{Contents}
use Rattle.pw_model.specs.Energy.{account, owner_at}
use Rattle.pw_months.specs.Between.{lies_in}
use Rattle.pw_bills.specs.Stretches.{end_of, first_of}

abbrev pub OwnerStart : Type 0
OwnerStart = ℕ × Option AccountId

-- within a stretch the account has the stretch's number, and all others are nobody
abbrev pub name_in : AccountId → ℕ → Option AccountId → Option AccountId
name_in a n o = cond (same_owner o (Some a)) (Some (account n)) None

-- a start with another owner
abbrev pub renamed : (Option AccountId → Option AccountId) → OwnerStart → OwnerStart
renamed f s = (s.0, f s.1)

-- behind a second and before another
abbrev pub is_behind : ℕ → ℕ → OwnerStart → Bool
is_behind from until s = nat_lt from s.0 && nat_lt s.0 until

-- the owner of the last start that isn't later than a second, else the one before all starts
abbrev pub owner_begun : Option AccountId → List OwnerStart → ℕ → Option AccountId
owner_begun o [] t = o
owner_begun o (s ∷ starts) t = owner_begun (cond (nat_le s.0 t) s.1 o) starts t

-- the starts of a stretch: its own, and those within it
abbrev pub stretch : List OwnerStart → AccountId → ℕ → ℕ → ℕ → List OwnerStart
stretch starts a n from until =
    (from, name_in a n (owner_begun None starts from)) ∷ map (renamed (name_in a n)) (filter (is_behind from until) starts)

-- from an end on nobody, where it is an instant
abbrev pub ended : ℕ → List OwnerStart
ended end = cond (nat_lt end END_SECOND) ((end, None) ∷ []) []

-- the starts of stretches one behind another, by their numbers from one on
abbrev pub named_from : List OwnerStart → AccountId → ℕ → List ℕ → ℕ → List OwnerStart
named_from starts a n [] end = ended end
named_from starts a n (b ∷ begins) end = stretch starts a n b (first_of begins end) ++ named_from starts a (n + 1) begins end

-- somebody owns the meter from the start on
abbrev pub names_somebody : OwnerStart → Bool
names_somebody s = is_some s.1

-- at each instant just the account within a stretch has the stretch's number
abbrev pub NamesStretches : (Key → Contents) → ℕ → AccountId → List ℕ → ℕ → List OwnerStart → Type 0
NamesStretches at m a begins end named = (i : ℕ) → i < length begins → (t : ℕ) → t < END_SECOND →
    same_owner (owner_by_starts named t) (Some (account i))
    ≡ (lies_in (slice_index begins i) (end_of begins end i) t && same_owner (owner_at at m t) (Some a))
