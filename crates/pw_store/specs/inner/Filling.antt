-- Which totals are put by period where a store is brought to version 3. It serves `src/total_statements.rt` and
-- `src/filling.rt`.
-- (Definitions of this project.)
use Rattle.std.specs.Prelude.{◌≡◌, ◌⊎◌, ◌++◌, ℕ, Bool, true, false, List, filter, map, Option, Some, None}
use Rattle.std.specs.List.{AllByRecursion}
use Rattle.std.specs.List.Sorted.{IsPermutation}
use Rattle.sqlite.specs.Tree.{Trees}
use Rattle.pw_model.specs.declared.records.TotalKey.{TotalKey}
use Rattle.pw_model.specs.declared.records.TotalKey.TheVariants.{Energy, TopUps}
use Rattle.pw_schema.specs.Judges.{is_above_zero}
use Rattle.pw_schema.specs.declared.kind.TotalKind.TheVariants.{Energies}
use Rattle.pw_store.specs.Content.{energy_tree}
use Rattle.pw_store.specs.declared.fault.OpenFault.{OpenFault}
use Rattle.pw_store.specs.declared.fault.OpenFault.TheVariants.{Store, Memory}
use Rattle.pw_store.specs.inner.Sums.{total_in_row}

-- ---- what is put
-- the totals that the rows of energy by period tell
abbrev pub energies_in : Trees → List (TotalKey × ℕ)
energies_in db = map (total_in_row Energies) (db energy_tree)

-- those of a list that are of energy
abbrev pub is_of_energy : TotalKey → Bool
is_of_energy (Energy o p b d) = true
is_of_energy (TopUps a) = false

abbrev pub energies_among : List (TotalKey × ℕ) → List (TotalKey × ℕ)
energies_among totals = filter (λ t. is_of_energy t.0) totals

-- beside what the rows told before they tell these
abbrev pub TellsMore : List (TotalKey × ℕ) → Trees → Trees → Type 0
TellsMore totals old new = IsPermutation (energies_in old ++ energies_among totals) (energies_in new)

-- ---- what is read again
-- of top-ups
abbrev pub IsOfTopUps : TotalKey → Type 0
IsOfTopUps (Energy o p b d) = ⊥
IsOfTopUps (TopUps a) = Unit {0}

abbrev pub AreOfTopUps : List (TotalKey × ℕ) → Type 0
AreOfTopUps totals = AllByRecursion (λ t. IsOfTopUps t.0) totals

-- what is left of a list is of top-ups, where the list begins with what was met
abbrev pub LeavesTopUps : Option (List (TotalKey × ℕ)) → Type 0
LeavesTopUps None = ⊥
LeavesTopUps (Some rest) = AreOfTopUps rest

-- those found, but for totals of 0, stand first among the totals, and behind them stand totals of top-ups alone
pub record AreTheEnergies (totals found : List (TotalKey × ℕ)) : Type 0 where
  pub rest : List (TotalKey × ℕ)
  pub whole : totals ≡ filter is_above_zero found ++ rest
  pub behind : AreOfTopUps rest

-- a fault of the engine, or for want of memory
abbrev pub IsOfEngine : OpenFault → Type 0
IsOfEngine fault = (fault ≡ Memory) ⊎ (fault ≡ Store)
