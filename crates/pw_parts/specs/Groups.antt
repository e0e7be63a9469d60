-- Records in order, those of one key together.
-- (Definitions of this project.)
use Rattle.std.specs.Prelude.{◌≡◌, ℕ, ◌≤◌, List, length, take, drop}
use Rattle.pw_model.specs.declared.records.Entry.{Entry}
use Rattle.pw_model.specs.Counting.{Member}

-- so many records at the head of a list have the key of the one before it, and no others have
pub record HasSameKey (first : Entry) (others : List Entry) (count : ℕ) : Type 0 where
  pub within : count ≤ length others
  pub same : (e : Entry) → Member e (take count others) → e.key ≡ first.key
  pub apart : (e : Entry) → Member e (drop count others) → e.key ≡ first.key → ⊥
