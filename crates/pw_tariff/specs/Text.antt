-- The office of a text.
-- (Definitions of this project over TOML 1.1. `parse_document` is the function from a text to its table by which the
-- library that reads TOML states what it reads.)
use Rattle.std.specs.Prelude.{◌≡◌, ◌==◌, ◌&&◌, ℕ, ℤ, pos, Option, Some, None, List, [], ◌∷◌, ◌++◌, length, map, option_and_then, is_some, unwrap_or, codes, nat_le, nat_lt, not, Bool, false, cond, IsUtf8}
use Rattle.std.specs.List.{list_all}
use Rattle.toml.specs.Parse.{parse_document}
use Rattle.toml.specs.Data.{Items, no_items, item, Members, get_member, as_str, as_integer, as_array, as_table}
use Rattle.pw_obis.specs.declared.reference.Register.{Register}
use Rattle.pw_obis.specs.declared.reference.Register.TheVariants.{I0}
use Rattle.pw_time.specs.declared.zone.Clock.TheVariants.{Marked}
use Rattle.pw_tariff.specs.declared.fault.OfficeFault.{OfficeFault}
use Rattle.pw_tariff.specs.declared.fault.OfficeFault.TheVariants.{Toml, MissingField, BadName, TwiceNamed, Week, Price, RegistersOverlap, Empty, TooMany, Period, Memory}
use Rattle.pw_tariff.specs.declared.limits.TheConstants.{MOST_ACCOUNTS, MOST_METERS, MOST_BANDS, MOST_PERIODS, LONGEST_ACCOUNT_NAME, LONGEST_METER_ID}
use Rattle.pw_time.specs.declared.instant.TheConstants.{FIRST_SECOND}
use Rattle.pw_tariff.specs.Office.{OfficeFile, BandText, MeterText, PeriodText, band_named, overlap}
use Rattle.pw_tariff.specs.Words.{is_name, is_band_name, is_new, clock_named, register_named, is_price, whole_hour}
use Rattle.pw_tariff.specs.Checks.{Check, check, first_refusal, each_in_turn, list_checks}

-- ---- what stands at a key, if it is there and of that kind
abbrev pub text_at : List ℕ → Members → Option (List ℕ)
text_at key t = option_and_then as_str (get_member key t)

abbrev pub integer_at : List ℕ → Members → Option ℤ
integer_at key t = option_and_then as_integer (get_member key t)

abbrev pub list_at : List ℕ → Members → Option Items
list_at key t = option_and_then as_array (get_member key t)

abbrev pub put_before : {A : Type 0} → Option A → Option (List A) → Option (List A)
put_before (Some x) (Some xs) = Some (x ∷ xs)
put_before None xs = None
put_before (Some x) None = None

-- the texts of a list, if each of its elements is one
abbrev pub texts_of : Items → Option (List (List ℕ))
texts_of no_items = Some []
texts_of (item d ds) = put_before (as_str d) (texts_of ds)

-- its tables, likewise
abbrev pub tables_of : Items → Option (List Members)
tables_of no_items = Some []
tables_of (item d ds) = put_before (as_table d) (tables_of ds)

abbrev pub texts_at : List ℕ → Members → Option (List (List ℕ))
texts_at key t = option_and_then texts_of (list_at key t)

-- its whole numbers, likewise
abbrev pub integers_of : Items → Option (List ℤ)
integers_of no_items = Some []
integers_of (item d ds) = put_before (as_integer d) (integers_of ds)

abbrev pub integers_at : List ℕ → Members → Option (List ℤ)
integers_at key t = option_and_then integers_of (list_at key t)

abbrev pub tables_at : List ℕ → Members → Option (List Members)
tables_at key t = option_and_then tables_of (list_at key t)

-- ---- accounts
abbrev pub account_checks : List (List ℕ) → List ℕ → List Check
account_checks earlier name =
    check BadName (is_name LONGEST_ACCOUNT_NAME name) ∷ check TwiceNamed (is_new name earlier) ∷ []

abbrev pub accounts_checks : Members → List Check
accounts_checks t = list_checks MOST_ACCOUNTS (λ name. name) account_checks (texts_at (codes "accounts") t)

abbrev pub accounts_of : Members → List (List ℕ)
accounts_of t = unwrap_or (texts_at (codes "accounts") t) []

-- ---- bands
abbrev pub band_name_of : Members → List ℕ
band_name_of b = unwrap_or (text_at (codes "name") b) []

abbrev pub whole_number_of : List ℕ → Members → ℤ
whole_number_of key b = unwrap_or (integer_at key b) (pos 0)

abbrev pub has_band_keys : Members → Bool
has_band_keys b = (is_some (text_at (codes "name") b) && is_some (integer_at (codes "import") b)) && is_some (integer_at (codes "export") b)

abbrev pub band_checks : List (List ℕ) → Members → List Check
band_checks earlier b =
    check MissingField (has_band_keys b)
    ∷ check BadName (is_band_name (band_name_of b))
    ∷ check TwiceNamed (is_new (band_name_of b) earlier)
    ∷ check Price (is_price (whole_number_of (codes "import") b))
    ∷ check Price (is_price (whole_number_of (codes "export") b))
    ∷ []

abbrev pub bands_checks : Members → List Check
bands_checks t = list_checks MOST_BANDS band_name_of band_checks (tables_at (codes "band") t)

abbrev pub letter_of : List ℕ → ℕ
letter_of [] = 0
letter_of (c ∷ cs) = c

abbrev pub whole_of : ℤ → ℕ
whole_of (pos n) = n
whole_of _ = 0

abbrev pub band_of_table : Members → BandText
band_of_table b = record {
  name = letter_of (band_name_of b);
  import_price = whole_of (whole_number_of (codes "import") b);
  export_price = whole_of (whole_number_of (codes "export") b);
}

abbrev pub bands_of_table : Members → List BandText
bands_of_table t = map band_of_table (unwrap_or (tables_at (codes "band") t) [])

-- ---- meters
abbrev pub id_of : Members → List ℕ
id_of m = unwrap_or (text_at (codes "id") m) []

abbrev pub clock_of : Members → List ℕ
clock_of m = unwrap_or (text_at (codes "clock") m) []

abbrev pub register_texts : Members → List (List ℕ)
register_texts m = unwrap_or (texts_at (codes "registers") m) []

abbrev pub register_of : List ℕ → Register
register_of text = unwrap_or (register_named text) I0

abbrev pub registers_of : List (List ℕ) → List Register
registers_of texts = map register_of texts

abbrev pub has_meter_keys : Members → Bool
has_meter_keys m = (is_some (text_at (codes "id") m) && is_some (text_at (codes "clock") m)) && is_some (texts_at (codes "registers") m)

abbrev pub register_checks : List (List ℕ) → List ℕ → List Check
register_checks earlier text =
    check BadName (is_some (register_named text)) ∷ check TwiceNamed (is_new text earlier) ∷ []

abbrev pub registers_in_turn : List (List ℕ) → List Check
registers_in_turn texts = each_in_turn (λ text. text) register_checks [] texts

abbrev pub registers_checks : List (List ℕ) → List Check
registers_checks texts =
    check Empty (nat_le 1 (length texts))
    ∷ (registers_in_turn texts ++ check RegistersOverlap (not (overlap (registers_of texts))) ∷ [])

abbrev pub meter_checks : List (List ℕ) → Members → List Check
meter_checks earlier m =
    check MissingField (has_meter_keys m)
    ∷ check BadName (is_name LONGEST_METER_ID (id_of m))
    ∷ check TwiceNamed (is_new (id_of m) earlier)
    ∷ check BadName (is_some (clock_named (clock_of m)))
    ∷ registers_checks (register_texts m)

abbrev pub meters_checks : Members → List Check
meters_checks t = list_checks MOST_METERS id_of meter_checks (tables_at (codes "meter") t)

abbrev pub meter_of_table : Members → MeterText
meter_of_table m = record {
  id = id_of m;
  clock = unwrap_or (clock_named (clock_of m)) Marked;
  registers = registers_of (register_texts m);
}

abbrev pub meters_of_table : Members → List MeterText
meters_of_table t = map meter_of_table (unwrap_or (tables_at (codes "meter") t) [])

-- ---- the week
abbrev pub week_of : Members → List (List ℕ)
week_of t = unwrap_or (texts_at (codes "week") t) []

-- a text of 24 letters, one for each hour, each a band's name
abbrev pub is_day : List BandText → List ℕ → Bool
is_day bands day = (length day == 24) && list_all (λ c. nat_lt (band_named bands c) (length bands)) day

-- seven of them, Monday first
abbrev pub is_week : List BandText → List (List ℕ) → Bool
is_week bands week = (length week == 7) && list_all (is_day bands) week

abbrev pub week_checks : Members → List Check
week_checks t =
    check MissingField (is_some (texts_at (codes "week") t)) ∷ check Week (is_week (bands_of_table t) (week_of t)) ∷ []

-- ---- the periods behind the first
abbrev pub start_of : Members → Option ℕ
start_of p = option_and_then whole_hour (text_at (codes "start") p)

abbrev pub whole_numbers_of : List ℕ → Members → List ℤ
whole_numbers_of key p = unwrap_or (integers_at key p) []

abbrev pub has_period_keys : Members → Bool
has_period_keys p = (is_some (text_at (codes "start") p) && is_some (texts_at (codes "week") p))
    && (is_some (integers_at (codes "import") p) && is_some (integers_at (codes "export") p))

-- it is one, and later than the start before
abbrev pub is_later : ℕ → Option ℕ → Bool
is_later before None = false
is_later before (Some start) = nat_lt before start

-- a price for each band
abbrev pub prices_checks : List BandText → List ℤ → List Check
prices_checks bands prices =
    check Period (length prices == length bands) ∷ check Price (list_all is_price prices) ∷ []

-- of a period behind a start, in an office of these bands
abbrev pub period_checks : List BandText → ℕ → Members → List Check
period_checks bands before p =
    check MissingField (has_period_keys p)
    ∷ check Period (is_later before (start_of p))
    ∷ check Week (is_week bands (week_of p))
    ∷ (prices_checks bands (whole_numbers_of (codes "import") p) ++ prices_checks bands (whole_numbers_of (codes "export") p))

abbrev pub period_of_table : Members → PeriodText
period_of_table p = record {
  start = unwrap_or (start_of p) FIRST_SECOND;
  week = week_of p;
  import_prices = map whole_of (whole_numbers_of (codes "import") p);
  export_prices = map whole_of (whole_numbers_of (codes "export") p);
}

-- of each period in turn, behind the start of the one before it
unfoldable pub periods_in_turn : List BandText → ℕ → List Members → List Check
periods_in_turn bands before [] = []
periods_in_turn bands before (p ∷ periods) =
    period_checks bands before p ++ periods_in_turn bands (period_of_table p).start periods

-- the tables of the key `period`; a file may leave it out
abbrev pub period_tables : Members → Option (List Members)
period_tables t = cond (is_some (get_member (codes "period") t)) (tables_at (codes "period") t) (Some [])

-- the first period is no table, and begins with the first instant
abbrev pub periods_checks : Members → List Check
periods_checks t = let periods = unwrap_or (period_tables t) [] in
    check MissingField (is_some (period_tables t))
    ∷ check TooMany (nat_lt (length periods) MOST_PERIODS)
    ∷ periods_in_turn (bands_of_table t) FIRST_SECOND periods

abbrev pub later_of_table : Members → List PeriodText
later_of_table t = map period_of_table (unwrap_or (period_tables t) [])

-- ---- the file
abbrev pub office_checks : Members → List Check
office_checks t = accounts_checks t ++ bands_checks t ++ meters_checks t ++ week_checks t ++ periods_checks t

abbrev pub file_of_table : Members → OfficeFile
file_of_table t = record {
  accounts = accounts_of t;
  bands = bands_of_table t;
  meters = meters_of_table t;
  week = week_of t;
  later = later_of_table t;
}

-- the table that a text is
abbrev pub IsTable : List ℕ → Members → Type 0
IsTable text t = IsUtf8 text × (parse_document text ≡ Some t)

-- the office of a text: its table passes all checks
abbrev pub IsOfficeOf : List ℕ → OfficeFile → Type 0
IsOfficeOf text file = (t : Members) × IsTable text t × (first_refusal (office_checks t) ≡ None) × (file ≡ file_of_table t)

-- the refusal of a text: it has no table, or a check of its table is the first that fails;
-- want of memory says nothing of the text
abbrev pub IsRefused : List ℕ → OfficeFault → Type 0
IsRefused text Toml = (t : Members) → ¬ (IsTable text t)
IsRefused text Memory = Unit {0}
IsRefused text fault = (t : Members) × IsTable text t × (first_refusal (office_checks t) ≡ Some fault)
