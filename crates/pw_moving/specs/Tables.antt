-- What a renaming keeps: for each account and meter of the old office its place in the new one, where it has one.
-- (Definitions of this project.)
use Rattle.std.specs.Prelude.{◌≡◌, ℕ, ◌<◌, nat_lt, cond, Option, Some, None, List, length, get_or}
use Rattle.pw_tariff.specs.declared.ids.AccountId.{AccountId}
use Rattle.pw_tariff.specs.declared.ids.MeterId.{MeterId}
use Rattle.pw_moving.specs.Renaming.{Offices, by_names}

-- an account at a place below so many
abbrev pub account_below : ℕ → ℕ → Option AccountId
account_below n place = cond (nat_lt place n) (Some (record { 0 = place })) None

abbrev pub meter_below : ℕ → ℕ → Option MeterId
meter_below n place = cond (nat_lt place n) (Some (record { 0 = place })) None

-- of the first n accounts
pub record HasAccounts (o : Offices) (n : ℕ) (table : List (Option AccountId)) : Type 0 where
  pub count : length table ≡ n
  pub each : (a : ℕ) → a < n → get_or table a None ≡ account_below (length o.new.accounts) ((by_names o).account a)

-- of the first n meters
pub record HasMeters (o : Offices) (n : ℕ) (table : List (Option MeterId)) : Type 0 where
  pub count : length table ≡ n
  pub each : (m : ℕ) → m < n → get_or table m None ≡ meter_below (length o.new.meters) ((by_names o).meter m)

-- of all
pub record AreTables (o : Offices) (owners : List (Option AccountId)) (sources : List (Option MeterId)) : Type 0 where
  pub accounts : HasAccounts o (length o.old.accounts) owners
  pub meters : HasMeters o (length o.old.meters) sources
