-- A sound office file is an office.
use Rattle.std.proofs.Common.{◌≡◌, ℕ, zero, suc, ◌<◌, ◌≤◌, Option, Some, None, List, [], length, slice_get, get_or, refl, sym, ap, arith}
use Rattle.std.proofs.lemmas.List.{get_or_past}
use Rattle.std.proofs.lemmas.Option.{slice_get-get_or, slice_get_past}
use Rattle.pw_tariff.specs.declared.ids.Direction.{Direction}
use Rattle.pw_tariff.specs.declared.ids.Direction.TheVariants.{Import, Export}
use Rattle.pw_tariff.specs.declared.limits.TheConstants.{MOST_PRICE}
use Rattle.pw_tariff.specs.Office.{OfficeFile, BandText, PeriodText, IsSound, IsPeriod, periods_in, price_of, price_in, price_at}
use Rattle.pw_tariff.proofs.Answered.{bands-of}
use Rattle.pw_model.specs.Office.{SoundOfficeIsOffice}

-- a band with no price, for a place that no band has
no_band : BandText
no_band = record { name = 0; import_price = 0; export_price = 0 }

-- and a period, likewise
no_period : PeriodText
no_period = record { start = 0; week = []; import_prices = []; export_prices = [] }

some-price : (b : BandText) (d : Direction) → (b.import_price ≤ MOST_PRICE) × (b.export_price ≤ MOST_PRICE) → price_of (Some b) d ≤ MOST_PRICE
some-price b Import h = h.0
some-price b Export h = h.1

later-price : (bands : List BandText) (p : PeriodText) (b : ℕ) (d : Direction) → IsPeriod bands p → b < length bands → price_in (Some p) b d ≤ MOST_PRICE
later-price bands p b Import h l = h.import_prices.1 b 0 (let n = h.import_prices.0 in omega (arith, n, l))
later-price bands p b Export h l = h.export_prices.1 b 0 (let n = h.export_prices.0 in omega (arith, n, l))

price-of-file : (file : OfficeFile) → IsSound file → (p b : ℕ) (d : Direction) → p < periods_in file → b < length file.bands → price_at file p b d ≤ MOST_PRICE
unfolding price_at
price-of-file file s zero b d k l =
    let e : slice_get file.bands b ≡ Some (get_or file.bands b no_band) = slice_get-get_or file.bands b no_band l in
    rw e (some-price (get_or file.bands b no_band) d (s.prices b no_band l))
price-of-file file s (suc p) b d k l =
    let m : p < length file.later = omega (arith, k) in
    let e : slice_get file.later p ≡ Some (get_or file.later p no_period) = slice_get-get_or file.later p no_period m in
    rw e (later-price file.bands (get_or file.later p no_period) b d (s.later p no_period m) l)

pub sound-office : SoundOfficeIsOffice
sound-office file s = record {
  accounts = s.accounts.1;
  meters = s.meters.1;
  bands = s.bands.1;
  periods = s.periods;
  end = refl;
  band = λ t. (bands-of file s t).band;
  period = λ t. (bands-of file s t).period;
  price = price-of-file file s;
}

-- ---- where a file has no such period, or no such band, there is no price
pub no-period_price : (file : OfficeFile) (p b : ℕ) (d : Direction) → periods_in file ≤ p → 0 ≡ price_at file p b d
unfolding price_at
no-period_price file zero b d l = absurd (omega (arith, l))
no-period_price file (suc p) b d l =
    let e : slice_get file.later p ≡ None = slice_get_past file.later p (omega (arith, l)) in
    sym (ap (λ (o : Option PeriodText). price_in o b d) e)

no-later_price : (bands : List BandText) (p : PeriodText) (b : ℕ) (d : Direction) → IsPeriod bands p → length bands ≤ b → 0 ≡ price_in (Some p) b d
no-later_price bands p b Import h l = sym (get_or_past p.import_prices b 0 (let n = h.import_prices.0 in omega (arith, n, l)))
no-later_price bands p b Export h l = sym (get_or_past p.export_prices b 0 (let n = h.export_prices.0 in omega (arith, n, l)))

pub no-band_price : (file : OfficeFile) → IsSound file → (p b : ℕ) (d : Direction) → p < periods_in file → length file.bands ≤ b → 0 ≡ price_at file p b d
unfolding price_at
no-band_price file s zero b d k l =
    let e : slice_get file.bands b ≡ None = slice_get_past file.bands b l in
    sym (ap (λ (o : Option BandText). price_of o d) e)
no-band_price file s (suc p) b d k l =
    let m : p < length file.later = omega (arith, k) in
    let e : slice_get file.later p ≡ Some (get_or file.later p no_period) = slice_get-get_or file.later p no_period m in
    rw e (no-later_price file.bands (get_or file.later p no_period) b d (s.later p no_period m) l)
