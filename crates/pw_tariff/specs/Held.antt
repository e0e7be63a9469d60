-- What the program holds of an office, and what it stands for.
use Rattle.std.specs.Prelude.{◌≡◌, ℕ, ◌<◌, Option, Some, List, length, map, option_map, slice_get, string_bytes, Vec, IsSome}
use Rattle.std.specs.Global.{Global}
use Rattle.std.specs.BTreeMap.{BTreeMap, get_by}
use Rattle.std.specs.Cmp.Lexicographic.{slice_cmp}
use Rattle.std.specs.Ordering.{nat_cmp}
use Rattle.pw_tariff.specs.declared.ids.MeterId.{MeterId}
use Rattle.pw_tariff.specs.declared.office.Band.{Band}
use Rattle.pw_tariff.specs.declared.office.Meter.{Meter}
use Rattle.pw_tariff.specs.declared.office.Period.{Period}
use Rattle.pw_tariff.specs.declared.office.Office.TheInside.{Inside}
use Rattle.pw_tariff.specs.Office.{OfficeFile, BandText, MeterText, PeriodText}

abbrev pub band_of : Band → BandText
band_of b = record { name = b.name; import_price = b.import_price; export_price = b.export_price }

abbrev pub meter_of : Meter → MeterText
meter_of m = record { id = string_bytes m.id; clock = m.clock; registers = m.registers.items }

abbrev pub period_of : Period → PeriodText
period_of p = record {
  start = p.start;
  week = map string_bytes p.week.items;
  import_prices = p.import_prices.items;
  export_prices = p.export_prices.items;
}

abbrev pub bands_of : List Band → List BandText
bands_of bands = map band_of bands

abbrev pub file_of : Inside → OfficeFile
file_of o = record {
  accounts = map string_bytes o.accounts.items;
  bands = bands_of o.bands.items;
  meters = map meter_of o.meters.items;
  week = map string_bytes o.week.items;
  later = map period_of o.later.items;
}

-- ---- meters by their ids
-- the id of the meter at a place
abbrev pub id_at : List Meter → ℕ → Option (List ℕ)
id_at meters i = option_map (λ m. string_bytes m.id) (slice_get meters i)

-- what stands in the map at an id
abbrev pub place_of : BTreeMap (Vec ℕ Global) MeterId → List ℕ → Option MeterId
place_of places id = get_by (λ k. slice_cmp nat_cmp id k.items) places

-- the map has each of the first ids, and where it has a place, a meter of that id stands there
pub record AreByIdUpTo (meters : List Meter) (count : ℕ) (places : BTreeMap (Vec ℕ Global) MeterId) : Type 0 where
  pub each : (i : ℕ) (id : List ℕ) → i < count → id_at meters i ≡ Some id → IsSome (place_of places id)
  pub there : (id : List ℕ) (meter : MeterId) → place_of places id ≡ Some meter → id_at meters meter.0 ≡ Some id

-- all of them
abbrev pub AreById : List Meter → BTreeMap (Vec ℕ Global) MeterId → Type 0
AreById meters places = AreByIdUpTo meters (length meters) places
