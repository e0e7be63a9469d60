-- The seconds that are asked for where a period may be named, and what the energy of one period costs. It serves the plain
-- program (`src/plain`).
-- (Definitions of this project.)
use Rattle.std.specs.Prelude.{ℕ, ◌*◌, Bool, ◌==◌, ◌&&◌, Option, Some, None}
use Rattle.pw_tariff.specs.declared.ids.AccountId.{AccountId}
use Rattle.pw_tariff.specs.declared.ids.PeriodId.{PeriodId}
use Rattle.pw_tariff.specs.declared.ids.Direction.{Direction}
use Rattle.pw_tariff.specs.Office.{OfficeRules}
use Rattle.pw_tariff.specs.Owners.{same_owner}
use Rattle.pw_model.specs.declared.records.Key.{Key}
use Rattle.pw_model.specs.declared.records.Contents.{Contents}
use Rattle.pw_model.specs.Energy.{Asked, of_class, over_bands, energy_where}

-- whether a second is one of the band, and of the period where one is named
unfoldable pub in_tariff : OfficeRules → Option PeriodId → ℕ → ℕ → Bool
in_tariff office None band t = office.band t == band
in_tariff office (Some period) band t = (office.period t == period.0) && (office.band t == band)

-- the seconds with this owner and band, and of the period where one is named
abbrev pub asked_of : OfficeRules → Option AccountId → Option PeriodId → ℕ → Asked
asked_of office owner period band o t = same_owner o owner && in_tariff office period band t

-- what the energy of an owner in a direction costs in one period, in nano-euro
abbrev pub period_cost : OfficeRules → (Key → Contents) → Option AccountId → ℕ → Direction → ℕ
period_cost office at owner period direction =
    over_bands office (λ b. office.price period b direction * energy_where office at direction (of_class office owner period b))
