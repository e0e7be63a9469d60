-- The owner of a meter at a second.
-- (Definitions of this project.)
use Rattle.std.specs.Prelude.{◌==◌, ℕ, Option, Some, None, List, [], ◌∷◌, Bool, true, false, cond}
use Rattle.pw_tariff.specs.declared.ids.AccountId.{AccountId}
use Rattle.pw_flow.specs.Time.{AreInTime, last}

-- each start is later than the one before it
abbrev pub StartsIncrease : List (ℕ × Option AccountId) → Type 0
StartsIncrease starts = AreInTime (λ s. s.0) starts

-- the owner who begins at a second, where one begins there
unfoldable pub start_at : List (ℕ × Option AccountId) → ℕ → Option (Option AccountId)
start_at [] t = None
start_at (s ∷ starts) t = cond (s.0 == t) (Some s.1) (start_at starts t)

-- nobody where there is no start, else the start's owner
abbrev pub owner_from : Option (ℕ × Option AccountId) → Option AccountId
owner_from None = None
owner_from (Some s) = s.1

-- the owner at a second: that of the latest start that isn't later
unfoldable pub owner_by_starts : List (ℕ × Option AccountId) → ℕ → Option AccountId
owner_by_starts starts t = owner_from (last (start_at starts) t)

-- the same owner
abbrev pub same_owner : Option AccountId → Option AccountId → Bool
same_owner None None = true
same_owner (Some a) (Some b) = a.0 == b.0
same_owner None (Some b) = false
same_owner (Some a) None = false
