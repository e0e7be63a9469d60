-- What an office says of its periods behind the first.
use Rattle.std.proofs.Common.{◌≡◌, ℕ, suc, ◌+◌, ◌-◌, ◌<◌, ◌≤◌, Some, option_map, slice_get, List, length, map, get_or, All, refl, sym, ◌∙◌, ap, subst, arith}
use Rattle.std.proofs.lemmas.List.{get_or-map, length-map}
use Rattle.std.proofs.lemmas.Option.{slice_get_read, slice_get-map}
use Rattle.pw_tariff.specs.declared.ids.Direction.{Direction}
use Rattle.pw_tariff.specs.declared.ids.Direction.TheVariants.{Import, Export}
use Rattle.pw_tariff.specs.declared.limits.TheConstants.{MOST_PRICE}
use Rattle.pw_tariff.specs.declared.office.Period.{Period}
use Rattle.pw_tariff.specs.Office.{OfficeFile, BandText, PeriodText, IsPeriod, ArePrices, period_starts, price_at, price_in, price_of, week_of_period}
use Rattle.pw_tariff.specs.Held.{period_of}

-- ---- in the words of the definitions
pub later-price : (file : OfficeFile) (p k band : ℕ) (d : Direction) (q : PeriodText) → p ≡ suc k → slice_get file.later k ≡ Some q → price_at file p band d ≡ price_in (Some q) band d
unfolding price_at
later-price file p k band d q e h = rw (e, h) refl

pub later-week : (file : OfficeFile) (p k : ℕ) (q : PeriodText) → p ≡ suc k → slice_get file.later k ≡ Some q → week_of_period file p ≡ q.week
later-week file p k q e h = rw (e, h) refl

pub later-start : (file : OfficeFile) (p k : ℕ) (q : PeriodText) → p ≡ suc k → slice_get file.later k ≡ Some q → slice_get (period_starts file) p ≡ Some q.start
later-start file p k q e h = rw e (slice_get-map (λ (x : PeriodText). x.start) file.later k ∙ ap (option_map (λ (x : PeriodText). x.start)) h)

pub first-price : (file : OfficeFile) (p band : ℕ) (d : Direction) (b : BandText) → p ≡ 0 → slice_get file.bands band ≡ Some b → price_at file p band d ≡ price_of (Some b) d
unfolding price_at
first-price file p band d b e h = rw (e, h) refl

pub first-bound : (b : BandText) (d : Direction) → (b.import_price ≤ MOST_PRICE) × (b.export_price ≤ MOST_PRICE) → price_of (Some b) d ≤ MOST_PRICE
first-bound b Import h = h.0
first-bound b Export h = h.1

-- ---- as the program read them
pub later-within : (ps : List Period) (p : ℕ) → 0 < p → p < length (map period_of ps) + 1 → p - 1 < length ps
later-within ps p l h = let n : length (map period_of ps) ≡ length ps = length-map ps period_of in omega (arith, n)

pub period-read : (ps : List Period) (i : ℕ) (p : Period) → i < length ps → p ≡ get_or ps i p → slice_get (map period_of ps) i ≡ Some (period_of p)
period-read ps i p l e = slice_get-map period_of ps i ∙ ap (option_map period_of) (slice_get_read ps (length ps) i p refl l e)

pub period-is : (bands : List BandText) (ps : List Period) (i : ℕ) (p : Period) → i < length ps → p ≡ get_or ps i p → All (IsPeriod bands) (map period_of ps) → IsPeriod bands (period_of p)
period-is bands ps i p l e h =
    let n : length (map period_of ps) ≡ length ps = length-map ps period_of in
    let same : get_or (map period_of ps) i (period_of p) ≡ period_of p = get_or-map period_of ps i p (period_of p) l ∙ ap period_of (sym e) in
    subst (IsPeriod bands) same (h i (period_of p) (omega arith))

-- it has a price for each band in each direction
pub prices-there : (bands : List BandText) (ps : List Period) (p band : ℕ) (q : Period) → 0 < p → p < length (map period_of ps) + 1 → q ≡ get_or ps (p - 1) q → All (IsPeriod bands) (map period_of ps) → band < length bands →
    (band < length q.import_prices.items) × (band < length q.export_prices.items)
prices-there bands ps p band q l n is sound b =
    let it = period-is bands ps (p - 1) q (later-within ps p l n) is sound in
    let imports = it.import_prices.0 in
    let exports = it.export_prices.0 in
    (omega (arith, imports, b), omega (arith, exports, b))

-- a price of a band
pub price-bound : (bands : List BandText) (prices : List ℕ) (band : ℕ) → ArePrices bands prices → band < length bands → get_or prices band 0 ≤ MOST_PRICE
price-bound bands prices band h l = let n = h.0 in h.1 band 0 (omega (arith, n, l))

pub later-bound : (bands : List BandText) (q : PeriodText) (band : ℕ) (d : Direction) → IsPeriod bands q → band < length bands → price_in (Some q) band d ≤ MOST_PRICE
later-bound bands q band Import h l = price-bound bands q.import_prices band h.import_prices l
later-bound bands q band Export h l = price-bound bands q.export_prices band h.export_prices l
