-- The energy of a set, one second at a time, and what it costs.
-- (Definitions of this project. Import and export are energy delivered to and by the client, 1.8 and 2.8 of IEC 62056-6-1.)
use Rattle.std.specs.Prelude.{ℕ, ◌+◌, ◌*◌, Bool, cond, ◌==◌, ◌&&◌, Option, Some, None, List}
use Rattle.pw_tariff.specs.declared.ids.AccountId.{AccountId}
use Rattle.pw_obis.specs.declared.reference.Register.{Register}
use Rattle.pw_obis.specs.declared.reference.Register.TheVariants.{I0, I1, I2, E0, E1, E2}
use Rattle.pw_tariff.specs.declared.ids.Direction.{Direction}
use Rattle.pw_tariff.specs.declared.ids.Direction.TheVariants.{Import, Export}
use Rattle.pw_model.specs.declared.records.Key.{Key}
use Rattle.pw_model.specs.declared.records.Contents.{Contents}
use Rattle.pw_model.specs.declared.records.Entry.{Entry}
use Rattle.pw_tariff.specs.Owners.{owner_from, same_owner}
use Rattle.pw_model.specs.Counting.{contents_at, point, start}
use Rattle.pw_tariff.specs.Office.{OfficeRules}
use Rattle.pw_flow.specs.Time.{last, sum_over}
use Rattle.pw_flow.specs.Energy.{register_energy}
use Rattle.pw_flow.specs.Flow.{rises}

-- the owner of a meter at a second: that of the latest start
unfoldable pub owner_at : (Key → Contents) → ℕ → ℕ → Option AccountId
owner_at at m t = owner_from (last (start at m) t)

-- which seconds are asked for, by their owner and the second
abbrev pub Asked : Type 0
Asked = Option AccountId → ℕ → Bool

-- the seconds of a meter that are asked for
abbrev pub asked_seconds : (Key → Contents) → Asked → ℕ → ℕ → Bool
asked_seconds at asked m t = asked (owner_at at m t) t

-- over the registers of a direction
abbrev pub over_registers : Direction → (Register → ℕ) → ℕ
over_registers Import f = f I0 + f I1 + f I2
over_registers Export f = f E0 + f E1 + f E2

-- of a meter's register, where it counts
abbrev pub share_of : OfficeRules → (Key → Contents) → Asked → ℕ → Register → ℕ
share_of office at asked m r = cond (office.counts m r) (register_energy (asked_seconds at asked m) (point at m r) office.end) 0

abbrev pub meter_share : OfficeRules → (Key → Contents) → Direction → Asked → ℕ → ℕ
meter_share office at direction asked m = over_registers direction (share_of office at asked m)

-- the flow of all meters, their registers of a direction, and the seconds that are asked for
unfoldable pub energy_where : OfficeRules → (Key → Contents) → Direction → Asked → ℕ
energy_where office at direction asked = sum_over (meter_share office at direction asked) 0 office.meters

-- the seconds with this owner and band
abbrev pub of_band : OfficeRules → Option AccountId → ℕ → Asked
of_band office owner band o t = same_owner o owner && (office.band t == band)

abbrev pub energy : OfficeRules → List Entry → Option AccountId → ℕ → Direction → ℕ
energy office s owner band direction = energy_where office (contents_at s) direction (of_band office owner band)

-- the seconds with this owner, period and band
abbrev pub of_class : OfficeRules → Option AccountId → ℕ → ℕ → Asked
of_class office owner period band o t = same_owner o owner && ((office.period t == period) && (office.band t == band))

abbrev pub energy_in_period : OfficeRules → List Entry → Option AccountId → ℕ → ℕ → Direction → ℕ
energy_in_period office s owner period band direction = energy_where office (contents_at s) direction (of_class office owner period band)

-- over all periods, and over all bands
abbrev pub over_periods : OfficeRules → (ℕ → ℕ) → ℕ
over_periods office f = sum_over f 0 office.periods

abbrev pub over_bands : OfficeRules → (ℕ → ℕ) → ℕ
over_bands office f = sum_over f 0 office.bands

-- what the energy of an owner in a direction costs, in nano-euro: each energy at the price of its period and band
unfoldable pub cost : OfficeRules → (Key → Contents) → Option AccountId → Direction → ℕ
cost office at owner direction =
    over_periods office (λ p. over_bands office (λ b. office.price p b direction * energy_where office at direction (of_class office owner p b)))

-- ---- the whole, however it is shared out
abbrev pub account : ℕ → AccountId
account a = record { 0 = a }

-- over nobody, and all accounts
abbrev pub over_owners : OfficeRules → (Option AccountId → ℕ) → ℕ
over_owners office f = f None + sum_over (λ a. f (Some (account a))) 0 office.accounts

-- of a meter's register, where it counts
abbrev pub register_rises : OfficeRules → (Key → Contents) → ℕ → Register → ℕ
register_rises office at m r = cond (office.counts m r) (rises (point at m r) office.end) 0

-- the rises of all neighbours of a direction that don't fall
unfoldable pub all_rises : OfficeRules → (Key → Contents) → Direction → ℕ
all_rises office at direction = sum_over (λ m. over_registers direction (register_rises office at m)) 0 office.meters
