-- The bill of an account for a month, as text. Each line ends with LF.
-- (A format of this project.)
use Rattle.std.specs.Prelude.{ℕ, zero, ◌+◌, ◌-◌, ◌/◌, Option, Some, None, List, [], ◌++◌, length, codes, decimal, ℤ, pos, ◌+ℤ◌, ◌-ℤ◌}
use Rattle.std.specs.List.{flat_map}
use Rattle.pw_obis.specs.Registers.{register_name}
use Rattle.pw_tariff.specs.declared.ids.Direction.TheVariants.{Import, Export}
use Rattle.pw_tariff.specs.Office.{OfficeFile}
use Rattle.pw_model.specs.Payments.{nano_in_cent}
use Rattle.pw_months.specs.Bills.{Bill}
use Rattle.pw_bills.specs.declared.readings.LastReading.{LastReading}
use Rattle.pw_report.specs.declared.months.Month.{Month}
use Rattle.pw_report.specs.Amounts.{cents_below, signed_euro_text}
use Rattle.pw_report.specs.Layout.{instant_text, left, right, listed_below}
use Rattle.pw_report.specs.Months.{month_text}
use Rattle.pw_report.specs.Names.{account_name, band_name, meter_name, period_name}

-- ---- amounts, in whole cents
-- the whole cents of what energy costs or brings, rounded down
abbrev pub whole_cents : ℕ → ℤ
whole_cents nano = pos (nano / nano_in_cent)

-- what is added so that the printed end is the printed begin with the printed amounts between
abbrev pub rounding : Bill → ℤ
rounding bill =
    cents_below bill.end
    -ℤ (((cents_below bill.begin +ℤ pos bill.topped_up) -ℤ whole_cents (bill.whole_cost Import)) +ℤ whole_cents (bill.whole_cost Export))

-- ---- lines
abbrev pub named_line : List ℕ → List ℕ → List ℕ
named_line name text = name ++ codes " " ++ text ++ codes "\n"

abbrev pub amount_line : List ℕ → ℤ → List ℕ
amount_line name cents = name ++ codes " EUR " ++ signed_euro_text cents ++ codes "\n"

-- none where nothing is added
abbrev pub rounding_line : ℤ → List ℕ
rounding_line (pos zero) = []
rounding_line cents = amount_line (codes "rounding") cents

-- ---- a period, and what was used in it
-- a band's name, what was imported and what it costs, and what was exported and what it brings
abbrev pub used_line : List ℕ → List ℕ → List ℕ → List ℕ → List ℕ → List ℕ
used_line name imported paid exported brought =
    left 4 name ++ right 16 imported ++ right 16 paid ++ right 16 exported ++ right 16 brought ++ codes "\n"

abbrev pub cost_text : ℕ → List ℕ
cost_text nano = signed_euro_text (whole_cents nano)

-- of a period and a band
abbrev pub used_in : OfficeFile → Bill → ℕ → ℕ → List ℕ
used_in file bill p b =
    used_line (band_name file b) (decimal (bill.energy p b Import)) (cost_text (bill.cost p b Import))
    (decimal (bill.energy p b Export)) (cost_text (bill.cost p b Export))

abbrev pub used_header : List ℕ
used_header = used_line (codes "band") (codes "import Wh") (codes "import EUR") (codes "export Wh") (codes "export EUR")

-- of a period, by its start, band by band
abbrev pub period_lines : OfficeFile → Bill → ℕ → List ℕ
period_lines file bill p =
    named_line (codes "period") (period_name file p) ++ used_header ++ listed_below (length file.bands) (used_in file bill p)

-- of each period from one up to another
unfoldable pub periods_text : OfficeFile → Bill → ℕ → ℕ → List ℕ
periods_text file bill first last = listed_below (last + 1 - first) (λ n. period_lines file bill (first + n))

-- ---- how far meters are read
abbrev pub reading_text : Option (ℕ × ℕ) → List ℕ
reading_text None = codes "never"
reading_text (Some a) = instant_text a.0 ++ codes " " ++ decimal a.1

abbrev pub read_line : OfficeFile → LastReading → List ℕ
read_line file row =
    codes "read up to " ++ meter_name file row.meter.0 ++ codes " " ++ register_name row.register ++ codes " "
    ++ reading_text row.last ++ codes "\n"

-- ---- the whole
-- of an account and a month, with the first and the last period that have seconds of it; how far each register is read,
-- and how many records are held
unfoldable pub bill_text : OfficeFile → ℕ → Month → ℕ → ℕ → Bill → List LastReading → ℕ → List ℕ
bill_text file a m first last bill read count =
    named_line (codes "account") (account_name file a)
    ++ named_line (codes "month") (month_text m)
    ++ amount_line (codes "begin") (cents_below bill.begin)
    ++ amount_line (codes "topped up") (pos bill.topped_up)
    ++ periods_text file bill first last
    ++ amount_line (codes "import") (whole_cents (bill.whole_cost Import))
    ++ amount_line (codes "export") (whole_cents (bill.whole_cost Export))
    ++ rounding_line (rounding bill)
    ++ amount_line (codes "end") (cents_below bill.end)
    ++ flat_map (read_line file) read
    ++ named_line (codes "records") (decimal count)
