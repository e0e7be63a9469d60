-- What a table with changes keeps up. It serves `src/table.rt`.
-- (Definitions of this project.)
use Rattle.std.specs.Prelude.{◌≡◌, Bool, not, cond, Option, Some, None, IsSome, List, [], ◌∷◌, ◌++◌}
use Rattle.std.specs.List.{filter}
use Rattle.std.specs.BTreeMap.Range.{entries_between}
use Rattle.std.specs.declared.ops.Bound.{Bound}
use Rattle.std.specs.BTreeMap.{get, is_at}
use Rattle.std.specs.declared.cmp.Ordering.{Ordering}
use Rattle.pw_shelf.specs.declared.table.Change.{Change}
use Rattle.pw_shelf.specs.declared.table.Table.{Table}
use Rattle.pw_shelf.specs.Table.{at_begin, is_taken}

abbrev pub change_of : {X : Type 0} → Option X → Bool → Change X
change_of before gone = record { before = before; gone = gone }

-- the first or the last of a list, or that it is empty
abbrev pub IsFirst : {E : Type 0} → List E → Option E → Type 0
IsFirst l None = l ≡ []
IsFirst {E} l (Some e) = (others : List E) × (l ≡ e ∷ others)

abbrev pub IsLast : {E : Type 0} → List E → Option E → Type 0
IsLast l None = l ≡ []
IsLast {E} l (Some e) = (others : List E) × (l ≡ others ++ e ∷ [])

module _ {K X : Type 0} (order : K → K → Ordering) where
  -- where something stood when the upload began, there is still a row: so that it can be put back with no memory
  abbrev pub CanGoBack : Table K X → Type 0
  CanGoBack t = (k : K) → IsSome (at_begin order t k) → IsSome (get order t.rows k)

  -- one function tells this at a key, and else what another tells
  abbrev pub TellsAt : K → Option X → (K → Option X) → (K → Option X) → Type 0
  TellsAt k x old new = (q : K) → new q ≡ cond (is_at (order k) q) x (old q)

  -- those of the rows that weren't taken away
  abbrev pub left_of : Table K X → List (K × X) → List (K × X)
  left_of t es = filter (λ e. not (is_taken order t e.0)) es

  -- these between two bounds
  abbrev pub rows_between : Bound K → Bound K → Table K X → List (K × X)
  rows_between lo hi t = left_of t (entries_between order lo hi t.rows.entries)
