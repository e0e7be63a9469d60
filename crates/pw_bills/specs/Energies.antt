-- The energies of an account in stretches of time.
-- (Definitions of this project.)
use Rattle.std.specs.Prelude.{◌≡◌, ℕ, ◌-◌, ◌<◌, ◌^◌, min, Some, List, length, slice_index}
use Rattle.pw_tariff.specs.declared.ids.AccountId.{AccountId}
use Rattle.pw_tariff.specs.declared.ids.BandId.{BandId}
use Rattle.pw_tariff.specs.declared.ids.Direction.{Direction}
use Rattle.pw_tariff.specs.declared.ids.PeriodId.{PeriodId}
use Rattle.pw_tariff.specs.Office.{OfficeRules}
use Rattle.pw_model.specs.declared.records.Entry.{Entry}
use Rattle.pw_model.specs.declared.records.TotalKey.TheVariants.{Energy}
use Rattle.pw_model.specs.Energy.{account}
use Rattle.pw_parts.specs.Changes.{gathered}
use Rattle.pw_parts.specs.declared.changes.Side.TheVariants.{Gains}
use Rattle.pw_months.specs.Between.{energy_between}
use Rattle.pw_bills.specs.declared.energies.Energies.{Energies}
use Rattle.pw_bills.specs.Stretches.{end_of}

-- in Wh, in a period, a band and a direction: what is gathered under the number of a stretch; the most that a word holds,
-- where that is more
abbrev pub energy_told : Energies → ℕ → PeriodId → BandId → Direction → ℕ
energy_told e i p b d = min (gathered Gains e.changes.rows (Energy (Some (account i)) p b d)) (2 ^ 64 - 1)

-- it is the account's energy in each stretch
abbrev pub TellsEnergies : OfficeRules → List Entry → AccountId → List ℕ → ℕ → Energies → Type 0
TellsEnergies office s a begins end e = (i : ℕ) → i < length begins → (p : PeriodId) (b : BandId) (d : Direction) →
    energy_told e i p b d ≡ energy_between office s (Some a) p.0 b.0 d (slice_index begins i) (end_of begins end i)
