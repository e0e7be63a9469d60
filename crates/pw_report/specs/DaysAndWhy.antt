-- The days of an account's month, and why its bill is what it is, as CSV (RFC 4180, but that a line ends with LF, and that
-- rows of top-ups have five fields).
-- (Formats of this project.)
use Rattle.std.specs.Prelude.{ℕ, ◌+◌, ◌*◌, List, [], ◌∷◌, ◌++◌, length, codes, decimal}
use Rattle.std.specs.List.{flat_map}
use Rattle.pw_obis.specs.Registers.{register_name}
use Rattle.pw_tariff.specs.declared.ids.AccountId.{AccountId}
use Rattle.pw_tariff.specs.declared.ids.Direction.{Direction}
use Rattle.pw_tariff.specs.declared.ids.Direction.TheVariants.{Import, Export}
use Rattle.pw_tariff.specs.Ids.{direction_name}
use Rattle.pw_tariff.specs.Office.{OfficeFile, office_of, price_at}
use Rattle.pw_model.specs.Energy.{over_periods}
use Rattle.pw_model.specs.Same.{direction_of}
use Rattle.pw_months.specs.Why.{WhyRow}
use Rattle.pw_bills.specs.declared.payments.TopUpRow.{TopUpRow}
use Rattle.pw_report.specs.declared.months.Month.{Month}
use Rattle.pw_report.specs.Exports.{csv_line, topup_fields}
use Rattle.pw_report.specs.Layout.{instant_text, listed_below}
use Rattle.pw_report.specs.Months.{date_text}
use Rattle.pw_report.specs.Names.{band_name, meter_name, period_name}

-- ---- days
-- in Wh, by day, period, band and direction; the first day of a month is 0
abbrev pub DayEnergies : Type 0
DayEnergies = ℕ → ℕ → ℕ → Direction → ℕ

-- of all periods together
abbrev pub day_wh : OfficeFile → DayEnergies → ℕ → ℕ → Direction → ℕ
day_wh file each i b d = over_periods (office_of file) (λ p. each i p b d)

-- in nano-euro, each at the price of its period
abbrev pub day_nano : OfficeFile → DayEnergies → ℕ → ℕ → Direction → ℕ
day_nano file each i b d = over_periods (office_of file) (λ p. price_at file p b d * each i p b d)

abbrev pub days_header : List (List ℕ)
days_header = codes "day" ∷ codes "band" ∷ codes "direction" ∷ codes "wh" ∷ codes "nano" ∷ []

abbrev pub day_line : OfficeFile → Month → DayEnergies → ℕ → ℕ → Direction → List ℕ
day_line file m each i b d =
    csv_line (date_text m (i + 1) ∷ band_name file b ∷ direction_name d ∷ decimal (day_wh file each i b d) ∷ decimal (day_nano file each i b d) ∷ [])

-- of a day, band by band
abbrev pub day_lines : OfficeFile → Month → DayEnergies → ℕ → List ℕ
day_lines file m each i =
    listed_below (length file.bands) (λ b. day_line file m each i b Import ++ day_line file m each i b Export)

-- of so many days
unfoldable pub days_text : OfficeFile → Month → DayEnergies → ℕ → List ℕ
days_text file m each count = csv_line days_header ++ listed_below count (day_lines file m each)

-- ---- why
abbrev pub why_header : List (List ℕ)
why_header =
    codes "kind" ∷ codes "meter" ∷ codes "register" ∷ codes "from" ∷ codes "low" ∷ codes "to" ∷ codes "high" ∷ codes "begin"
    ∷ codes "end" ∷ codes "period" ∷ codes "band" ∷ codes "wh" ∷ codes "nano" ∷ []

-- a piece of two readings: the readings, the piece, and what it gives
abbrev pub why_fields : OfficeFile → WhyRow → List (List ℕ)
why_fields file row =
    direction_name (direction_of row.register) ∷ meter_name file row.meter ∷ register_name row.register
    ∷ instant_text row.from ∷ decimal row.low ∷ instant_text row.to ∷ decimal row.high
    ∷ instant_text row.begin ∷ instant_text row.until ∷ period_name file row.period ∷ band_name file row.band
    ∷ decimal row.wh ∷ decimal row.nano ∷ []

-- a top-up of the account, as a row of withdrawals names it
abbrev pub payment_fields : OfficeFile → AccountId → TopUpRow → List (List ℕ)
payment_fields file a row = codes "topup" ∷ topup_fields file row.reference a row.cents row.instant

abbrev pub why_line : OfficeFile → WhyRow → List ℕ
why_line file row = csv_line (why_fields file row)

abbrev pub payment_line : OfficeFile → AccountId → TopUpRow → List ℕ
payment_line file a row = csv_line (payment_fields file a row)

unfoldable pub why_text : OfficeFile → AccountId → List WhyRow → List TopUpRow → List ℕ
why_text file a rows payments =
    csv_line why_header ++ flat_map (why_line file) rows ++ flat_map (payment_line file a) payments
