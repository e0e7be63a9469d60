-- What single checks of a text answer. It serves the readers of an office file in `src`.
use Rattle.std.specs.Prelude.{◌≡◌, ℕ, Option, Some, None, List, []}
use Rattle.pw_tariff.specs.declared.fault.OfficeFault.{OfficeFault}
use Rattle.pw_tariff.specs.declared.fault.OfficeFault.TheVariants.{Toml, MissingField, Memory}
use Rattle.pw_tariff.specs.Checks.{Check, first_refusal, each_in_turn}
use Rattle.toml.specs.Errors.{IsBlank}
use Rattle.toml.specs.Data.{Members}
use Rattle.pw_tariff.specs.Text.{account_checks, band_name_of, band_checks, id_of, meter_checks, IsTable}

-- none fails
abbrev pub Passes : List Check → Type 0
Passes checks = first_refusal checks ≡ None

-- the refusal is that of the first check that fails; want of memory says nothing of the checks
abbrev pub IsRefusal : List Check → OfficeFault → Type 0
IsRefusal checks Toml = ⊥
IsRefusal checks Memory = Unit {0}
IsRefusal checks fault = first_refusal checks ≡ Some fault

-- a list that isn't there, or want of memory
abbrev pub IsListFault : {A : Type 0} → Option A → OfficeFault → Type 0
IsListFault list MissingField = list ≡ None
IsListFault list Memory = Unit {0}
IsListFault list _ = ⊥

abbrev pub accounts_in_turn : List (List ℕ) → List Check
accounts_in_turn names = each_in_turn (λ name. name) account_checks [] names

abbrev pub bands_in_turn : List Members → List Check
bands_in_turn bands = each_in_turn band_name_of band_checks [] bands

abbrev pub meters_in_turn : List Members → List Check
meters_in_turn meters = each_in_turn id_of meter_checks [] meters

-- why a text has no table
abbrev pub IsNoTable : List ℕ → OfficeFault → Type 0
IsNoTable text Toml = (t : Members) → ¬ (IsTable text t)
IsNoTable text Memory = ¬ (IsBlank text)
IsNoTable text _ = ⊥
