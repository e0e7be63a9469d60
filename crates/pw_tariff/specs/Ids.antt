-- The ids of an office in its file's order, and the names of directions.
-- (Definitions of this project.)
use Rattle.std.specs.Prelude.{◌≡◌, ℕ, ◌+◌, ◌<◌, ◌≤◌, List, codes}
use Rattle.pw_tariff.specs.declared.ids.Direction.{Direction}
use Rattle.pw_tariff.specs.declared.ids.Direction.TheVariants.{Import, Export}

abbrev pub direction_name : Direction → List ℕ
direction_name Import = codes "import"
direction_name Export = codes "export"

-- the ids that are still to come: from the next on, below the end
pub record Ids : Type 0 where
  pub next : ℕ
  pub end : ℕ

-- all ids of so many accounts, meters or bands
abbrev pub ids_below : ℕ → Ids
ids_below n = record { next = 0; end = n }

-- no id is left
abbrev pub AreEnded : Ids → Ids → Type 0
AreEnded old new = (old.end ≤ old.next) × (new ≡ old)

-- the id is the next one
pub record GiveNext (old : Ids) (id : ℕ) (new : Ids) : Type 0 where
  pub next : id ≡ old.next
  pub within : id < old.end
  pub behind : new ≡ record { next = old.next + 1; end = old.end }
