-- Which records are of an office, and what every office keeps to.
-- (Definitions of this project; limits and prices are its profile.)
use Rattle.std.specs.Prelude.{◌≡◌, ℕ, ◌<◌, ◌≤◌, true, Option, Some, None, List}
use Rattle.pw_obis.specs.declared.energy.TheConstants.{LARGEST_WATT_HOURS}
use Rattle.pw_tariff.specs.declared.ids.AccountId.{AccountId}
use Rattle.pw_tariff.specs.declared.ids.Direction.{Direction}
use Rattle.pw_tariff.specs.declared.limits.TheConstants.{MOST_ACCOUNTS, MOST_METERS, MOST_BANDS, MOST_PERIODS, MOST_PRICE}
use Rattle.pw_tariff.specs.Office.{OfficeRules, OfficeFile, IsSound, office_of}
use Rattle.pw_time.specs.declared.instant.TheConstants.{END_SECOND}
use Rattle.pw_time.specs.Instants.{IsInstant}
use Rattle.pw_model.specs.declared.records.Key.{Key}
use Rattle.pw_model.specs.declared.records.Key.TheVariants as key
use Rattle.pw_model.specs.declared.records.Named.{Named}
use Rattle.pw_model.specs.declared.records.Named.TheVariants as named
use Rattle.pw_model.specs.declared.records.Content.{Content}
use Rattle.pw_model.specs.declared.records.Content.TheVariants as content
use Rattle.pw_model.specs.declared.records.Entry.{Entry}
use Rattle.pw_model.specs.References.{IsReference}
use Rattle.pw_model.specs.Counting.{Member}

-- at most 1,000,000 euro in one top-up
abbrev pub most_cents : ℕ
most_cents = 100_000_000

abbrev pub most_records : ℕ
most_records = 10_000_000

-- nobody, or an account of the office
abbrev pub HasOwner : OfficeRules → Option AccountId → Type 0
HasOwner office None = Unit {0}
HasOwner office (Some a) = a.0 < office.accounts

-- a reading, an assignment or a top-up, all of the office
abbrev pub IsNamedOf : OfficeRules → Named → Type 0
IsNamedOf office (named.Reading m r t w) =
    (m.0 < office.meters) × (office.counts m.0 r ≡ true) × IsInstant t × (w ≤ LARGEST_WATT_HOURS)
IsNamedOf office (named.Assignment m t o) = (m.0 < office.meters) × IsInstant t × HasOwner office o
IsNamedOf office (named.TopUp r a c t) =
    IsReference r × (a.0 < office.accounts) × (1 ≤ c) × (c ≤ most_cents) × IsInstant t

-- a key with a content of its kind, all of the office; a withdrawal is of the office where the record that it names is
abbrev pub IsOf : OfficeRules → Key → Content → Type 0
IsOf office (key.Reading m r t) (content.Reading w) = IsNamedOf office (named.Reading m r t w)
IsOf office (key.Assignment m t) (content.Assignment o) = IsNamedOf office (named.Assignment m t o)
IsOf office (key.TopUp r) (content.TopUp a c t) = IsNamedOf office (named.TopUp r a c t)
IsOf office (key.Withdrawal n) content.Withdrawal = IsNamedOf office n
IsOf office _ _ = ⊥

-- an entry of the office
abbrev pub IsOfOffice : OfficeRules → Entry → Type 0
IsOfOffice office e = IsOf office e.key e.content

abbrev pub AllOfOffice : OfficeRules → List Entry → Type 0
AllOfOffice office s = (e : Entry) → Member e s → IsOfOffice office e

-- each second's band is one of the office's
abbrev pub HasBands : OfficeRules → Type 0
HasBands office = (t : ℕ) → office.band t < office.bands

-- each second's period is one of the office's
abbrev pub HasPeriods : OfficeRules → Type 0
HasPeriods office = (t : ℕ) → office.period t < office.periods

-- what the office file ensures
pub record IsOffice (office : OfficeRules) : Type 0 where
  pub accounts : office.accounts ≤ MOST_ACCOUNTS
  pub meters : office.meters ≤ MOST_METERS
  pub bands : office.bands ≤ MOST_BANDS
  pub periods : office.periods ≤ MOST_PERIODS
  pub end : office.end ≡ END_SECOND
  pub band : HasBands office
  pub period : HasPeriods office
  pub price : (p b : ℕ) (d : Direction) → p < office.periods → b < office.bands → office.price p b d ≤ MOST_PRICE

-- a sound office file is an office
abbrev pub SoundOfficeIsOffice : Type 0
SoundOfficeIsOffice = (file : OfficeFile) → IsSound file → IsOffice (office_of file)
