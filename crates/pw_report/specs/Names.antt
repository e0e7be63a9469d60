-- The names that an office gives to its accounts, meters and bands, and the starts of its periods: nothing where it has no
-- such.
use Rattle.std.specs.Prelude.{ℕ, Option, Some, None, List, [], ◌∷◌, codes, slice_get, option_map, unwrap_or}
use Rattle.pw_tariff.specs.declared.ids.AccountId.{AccountId}
use Rattle.pw_tariff.specs.Office.{OfficeFile, period_starts}
use Rattle.pw_report.specs.Layout.{instant_text}

abbrev pub account_name : OfficeFile → ℕ → List ℕ
account_name file a = unwrap_or (slice_get file.accounts a) []

abbrev pub meter_name : OfficeFile → ℕ → List ℕ
meter_name file m = unwrap_or (option_map (λ t. t.id) (slice_get file.meters m)) []

-- one letter
abbrev pub band_name : OfficeFile → ℕ → List ℕ
band_name file b = unwrap_or (option_map (λ t. t.name ∷ []) (slice_get file.bands b)) []

-- an account's name, `-` for nobody
abbrev pub owner_name : OfficeFile → Option AccountId → List ℕ
owner_name file None = codes "-"
owner_name file (Some a) = account_name file a.0

-- a period is named by its start
abbrev pub period_name : OfficeFile → ℕ → List ℕ
period_name file p = unwrap_or (option_map instant_text (slice_get (period_starts file) p)) []
