-- Energy gathered by total. It serves `src/reading_change.rt` and `src/start_change.rt`.
-- (Definitions of this project.)
use Rattle.std.specs.Prelude.{◌≡◌, ℕ, ◌+◌}
use Rattle.std.specs.BTreeMap.{BTreeMap}
use Rattle.pw_tariff.specs.Office.{OfficeRules}
use Rattle.pw_model.specs.declared.records.Key.{Key}
use Rattle.pw_model.specs.declared.records.Contents.{Contents}
use Rattle.pw_model.specs.declared.records.TotalKey.{TotalKey}
use Rattle.pw_model.specs.declared.records.TotalKey.TheVariants.{Energy, TopUps}
use Rattle.pw_model.specs.Energy.{energy_where, of_class}
use Rattle.pw_parts.specs.Changes.{gathered}
use Rattle.pw_parts.specs.declared.changes.Change.{Change}
use Rattle.pw_parts.specs.declared.changes.Side.TheVariants.{Loses, Gains}

-- the energy of a total, where what counts is told by keys
abbrev pub energy_told : OfficeRules → (Key → Contents) → TotalKey → ℕ
energy_told office at (Energy o p b d) = energy_where office at d (of_class office o p.0 b.0)
energy_told office at (TopUps a) = 0

-- from the one to the other, each energy loses and gains what is gathered
abbrev pub AreDifferences : OfficeRules → (Key → Contents) → (Key → Contents) → BTreeMap TotalKey Change → Type 0
AreDifferences office was is rows = (k : TotalKey) →
    energy_told office was k + gathered Gains rows k ≡ energy_told office is k + gathered Loses rows k
