-- What a bill goes by: what flows in its interval and behind it, and what that costs. It serves `src/billing.rt` and
-- `src/billed.rt`.
-- (Definitions of this project.)
use Rattle.std.specs.Prelude.{◌≡◌, ℕ, ◌*◌, ◌<◌, Some, List, ℤ, pos, ◌+ℤ◌, ◌-ℤ◌}
use Rattle.pw_time.specs.declared.instant.TheConstants.{END_SECOND}
use Rattle.pw_tariff.specs.declared.ids.AccountId.{AccountId}
use Rattle.pw_tariff.specs.declared.ids.BandId.{BandId}
use Rattle.pw_tariff.specs.declared.ids.Direction.{Direction}
use Rattle.pw_tariff.specs.declared.ids.PeriodId.{PeriodId}
use Rattle.pw_tariff.specs.Office.{OfficeRules}
use Rattle.pw_model.specs.declared.records.Entry.{Entry}
use Rattle.pw_model.specs.Energy.{over_bands, over_periods}
use Rattle.pw_model.specs.Payments.{nano_in_cent}
use Rattle.pw_months.specs.Between.{energy_between}
use Rattle.pw_bills.specs.declared.energies.Energies.{Energies}
use Rattle.pw_bills.specs.Energies.{energy_told}

-- the energies of the interval stand under the number 0, and those behind it under the number 1, where there is a
-- second behind it
pub record TellsFlows (office : OfficeRules) (s : List Entry) (a : AccountId) (from to : ℕ) (e : Energies) : Type 0 where
  pub within : (p : PeriodId) (b : BandId) (d : Direction) →
      energy_told e 0 p b d ≡ energy_between office s (Some a) p.0 b.0 d from to
  pub behind : to < END_SECOND → (p : PeriodId) (b : BandId) (d : Direction) →
      energy_told e 1 p b d ≡ energy_between office s (Some a) p.0 b.0 d to END_SECOND

abbrev pub period_id : ℕ → PeriodId
period_id p = record { 0 = p }

abbrev pub band_id : ℕ → BandId
band_id b = record { 0 = b }

-- what the energy under a number costs in a band of a period
abbrev pub told_cost : OfficeRules → Energies → ℕ → ℕ → ℕ → Direction → ℕ
told_cost office e i p b d = office.price p b d * energy_told e i (period_id p) (band_id b) d

-- in a period
abbrev pub period_told : OfficeRules → Energies → ℕ → ℕ → Direction → ℕ
period_told office e i p d = over_bands office (λ b. told_cost office e i p b d)

-- and in all
abbrev pub cost_told : OfficeRules → Energies → ℕ → Direction → ℕ
cost_told office e i d = over_periods office (λ p. period_told office e i p d)

-- an amount in nano-euro before top-ups in cents, and before import was paid and export was
abbrev pub unsettled : ℤ → ℕ → ℕ → ℕ → ℤ
unsettled nano cents imported exported = ((nano -ℤ pos (nano_in_cent * cents)) +ℤ pos imported) -ℤ pos exported
