-- What an office file says, and the office that it is.
-- (Definitions of this project. Weekdays and hours are those of Central European time, EU directive 2000/84/EC.)
use Rattle.std.specs.Prelude.{◌≡◌, ◌==◌, ◌&&◌, ◌||◌, ℕ, zero, suc, ◌+◌, ◌%◌, ◌<◌, ◌≤◌, Option, Some, None, List, [], ◌∷◌, length, slice_get, slice_index, slice_index_or, map, count_by, nat_le, All, Bool, true, false}
use Rattle.std.specs.List.{list_any, position_or_len}
use Rattle.pw_obis.specs.declared.reference.Register.{Register}
use Rattle.pw_obis.specs.declared.reference.Register.TheVariants.{I0, I1, I2, E0, E1, E2}
use Rattle.pw_time.specs.declared.zone.Clock.{Clock}
use Rattle.pw_time.specs.declared.instant.TheConstants.{FIRST_SECOND, END_SECOND}
use Rattle.pw_time.specs.Instants.{IsInstant}
use Rattle.pw_time.specs.Summer.{local_weekday, local_hour}
use Rattle.pw_tariff.specs.declared.ids.Direction.{Direction}
use Rattle.pw_tariff.specs.declared.ids.Direction.TheVariants.{Import, Export}
use Rattle.pw_tariff.specs.declared.limits.TheConstants.{MOST_ACCOUNTS, MOST_METERS, MOST_BANDS, MOST_PERIODS, MOST_PRICE, LONGEST_ACCOUNT_NAME, LONGEST_METER_ID}
use Rattle.pw_tariff.specs.Words.{is_name, is_capital}
use Rattle.std.specs.List.Sorted.{IsStrictlyIncreasing}

-- ---- what the file says
-- a band: its letter, and its prices in nano-euro per watt-hour
pub record BandText : Type 0 where
  pub name : ℕ
  pub import_price : ℕ
  pub export_price : ℕ

-- a meter: its id, what its clock tells, and the registers that count
pub record MeterText : Type 0 where
  pub id : List ℕ
  pub clock : Clock
  pub registers : List Register

-- a later period: its first second, a text of letters for each weekday, Monday first, and in each direction a price for
-- each band, in nano-euro per watt-hour
pub record PeriodText : Type 0 where
  pub start : ℕ
  pub week : List (List ℕ)
  pub import_prices : List ℕ
  pub export_prices : List ℕ

-- the names of the accounts, the bands, the meters, a text of letters for each weekday, Monday first, and the periods behind
-- the first, which has this week and the bands' own prices
pub record OfficeFile : Type 0 where
  pub accounts : List (List ℕ)
  pub bands : List BandText
  pub meters : List MeterText
  pub week : List (List ℕ)
  pub later : List PeriodText

-- ---- what it means
-- the letter at a weekday (0 is Monday) and an hour
abbrev pub letter : List (List ℕ) → ℕ → ℕ → ℕ
letter week day hour = slice_index (slice_index_or week day []) hour

-- the position of the band with a letter, the number of bands where none has it
abbrev pub band_named : List BandText → ℕ → ℕ
band_named bands c = position_or_len (λ b. b.name == c) bands

-- how many periods there are
abbrev pub periods_in : OfficeFile → ℕ
periods_in file = length file.later + 1

-- the period of a second, from 0: as many of the later ones as have begun by then
unfoldable pub period_at : OfficeFile → ℕ → ℕ
period_at file t = count_by (λ p. nat_le p.start t) file.later

abbrev pub week_in : Option PeriodText → List (List ℕ)
week_in None = []
week_in (Some p) = p.week

-- the week of a period: the file's own in the first
abbrev pub week_of_period : OfficeFile → ℕ → List (List ℕ)
week_of_period file zero = file.week
week_of_period file (suc later) = week_in (slice_get file.later later)

-- the band of a second: that of the letter at the local weekday and hour, in the week of the second's period
unfoldable pub band_at : OfficeFile → ℕ → ℕ
band_at file t = band_named file.bands (letter (week_of_period file (period_at file t)) (local_weekday t) (local_hour t))

-- in nano-euro per watt-hour
abbrev pub price_of : Option BandText → Direction → ℕ
price_of None direction = 0
price_of (Some b) Import = b.import_price
price_of (Some b) Export = b.export_price

abbrev pub price_in : Option PeriodText → ℕ → Direction → ℕ
price_in None band direction = 0
price_in (Some p) band Import = slice_index p.import_prices band
price_in (Some p) band Export = slice_index p.export_prices band

-- the price of a band in a period and a direction: the band's own in the first period
unfoldable pub price_at : OfficeFile → ℕ → ℕ → Direction → ℕ
price_at file zero band direction = price_of (slice_get file.bands band) direction
price_at file (suc later) band direction = price_in (slice_get file.later later) band direction

-- the place of a register in the order I0, I1, I2, E0, E1, E2
abbrev pub register_place : Register → ℕ
register_place I0 = 0
register_place I1 = 1
register_place I2 = 2
register_place E0 = 3
register_place E1 = 4
register_place E2 = 5

abbrev pub same_register : Register → Register → Bool
same_register a b = register_place a == register_place b

-- the register is one of the list
abbrev pub has_register : List Register → Register → Bool
has_register registers r = list_any (same_register r) registers

abbrev pub counts_for : Option MeterText → Register → Bool
counts_for None r = false
counts_for (Some m) r = has_register m.registers r

abbrev pub counts_at : OfficeFile → ℕ → Register → Bool
counts_at file meter r = counts_for (slice_get file.meters meter) r

-- a total beside one of its rates would count energy twice
abbrev pub overlap : List Register → Bool
overlap registers = (has_register registers I0 && (has_register registers I1 || has_register registers I2))
    || (has_register registers E0 && (has_register registers E1 || has_register registers E2))

-- ---- the office, as records are judged and energy is shared out by it
pub record OfficeRules : Type 0 where
  pub accounts : ℕ
  pub meters : ℕ
  pub bands : ℕ
  pub periods : ℕ
  -- the first second behind all instants
  pub end : ℕ
  -- whether a meter's register counts
  pub counts : ℕ → Register → Bool
  -- the band of a second
  pub band : ℕ → ℕ
  -- the period of a second
  pub period : ℕ → ℕ
  -- of a period, a band and a direction, in nano-euro per watt-hour
  pub price : ℕ → ℕ → Direction → ℕ

abbrev pub office_of : OfficeFile → OfficeRules
office_of file = record {
  accounts = length file.accounts;
  meters = length file.meters;
  bands = length file.bands;
  periods = periods_in file;
  end = END_SECOND;
  counts = counts_at file;
  band = band_at file;
  period = period_at file;
  price = price_at file;
}

-- ---- what holds of each office
-- a text of 24 letters, one for each hour, each a band's name
abbrev pub IsDay : List BandText → List ℕ → Type 0
IsDay bands day = (length day ≡ 24) × All (λ c. band_named bands c < length bands) day

-- seven such texts, Monday first
abbrev pub IsWeek : List BandText → List (List ℕ) → Type 0
IsWeek bands week = (length week ≡ 7) × All (IsDay bands) week

-- a price for each band, in range
abbrev pub ArePrices : List BandText → List ℕ → Type 0
ArePrices bands prices = (length prices ≡ length bands) × All (λ n. n ≤ MOST_PRICE) prices

-- a later period begins at a whole hour of UTC, and has a week and prices of its own
pub record IsPeriod (bands : List BandText) (p : PeriodText) : Type 0 where
  pub instant : IsInstant p.start
  pub hour : p.start % 3600 ≡ 0
  pub week : IsWeek bands p.week
  pub import_prices : ArePrices bands p.import_prices
  pub export_prices : ArePrices bands p.export_prices

-- the starts of all periods; the first begins with the first instant
abbrev pub period_starts : OfficeFile → List ℕ
period_starts file = FIRST_SECOND ∷ map (λ p. p.start) file.later

-- no two places of a list have the same
abbrev pub AreDistinct : {A : Type 0} → List A → Type 0
AreDistinct {A} xs = (i j : ℕ) (x : A) → slice_get xs i ≡ Some x → slice_get xs j ≡ Some x → i ≡ j

abbrev pub ids : List MeterText → List (List ℕ)
ids meters = map (λ m. m.id) meters

abbrev pub letters : List BandText → List ℕ
letters bands = map (λ b. b.name) bands

-- each account, meter and band is the only one of its name
pub record AreNamed (file : OfficeFile) : Type 0 where
  pub accounts : AreDistinct file.accounts
  pub meters : AreDistinct (ids file.meters)
  pub bands : AreDistinct (letters file.bands)

-- each is named as names are written, and each meter counts some register
pub record AreWritten (file : OfficeFile) : Type 0 where
  pub accounts : All (λ name. is_name LONGEST_ACCOUNT_NAME name ≡ true) file.accounts
  pub meters : All (λ m. is_name LONGEST_METER_ID m.id ≡ true) file.meters
  pub bands : All (λ b. is_capital b.name ≡ true) file.bands
  pub registers : All (λ m. 1 ≤ length m.registers) file.meters

pub record IsSound (file : OfficeFile) : Type 0 where
  pub named : AreNamed file
  pub written : AreWritten file
  pub accounts : (1 ≤ length file.accounts) × (length file.accounts ≤ MOST_ACCOUNTS)
  pub bands : (1 ≤ length file.bands) × (length file.bands ≤ MOST_BANDS)
  pub meters : (1 ≤ length file.meters) × (length file.meters ≤ MOST_METERS)
  pub prices : All (λ b. (b.import_price ≤ MOST_PRICE) × (b.export_price ≤ MOST_PRICE)) file.bands
  pub totals : All (λ m. overlap m.registers ≡ false) file.meters
  pub week : IsWeek file.bands file.week
  pub periods : periods_in file ≤ MOST_PERIODS
  pub later : All (IsPeriod file.bands) file.later
  pub in_time : IsStrictlyIncreasing (period_starts file)
