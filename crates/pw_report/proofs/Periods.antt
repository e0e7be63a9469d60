-- The starts of an office's periods, and what it says of periods and bands that it hasn't.
use Rattle.std.proofs.Common.{◌≡◌, ◌⊎◌, ◌≤◌, ℕ, zero, suc, List, [], ◌∷◌, All, Option, Some, None, ap, arith, inl, inr, length, map, refl, subst}
use Rattle.std.specs.Prelude.{option_map, slice_get, unwrap_or}
use Rattle.std.proofs.lemmas.List.{get_or_past, length-map}
use Rattle.std.proofs.lemmas.List.Elements.{All-head, All-tail}
use Rattle.std.proofs.lemmas.Option.{none-some, same_Some, slice_get_past}
use Rattle.pw_time.specs.declared.instant.TheConstants.{FIRST_SECOND}
use Rattle.pw_time.specs.Instants.{IsInstant}
use Rattle.pw_tariff.specs.declared.ids.Direction.{Direction}
use Rattle.pw_tariff.specs.declared.ids.Direction.TheVariants.{Import, Export}
use Rattle.pw_tariff.specs.Office.{BandText, IsPeriod, IsSound, OfficeFile, PeriodText, period_starts, periods_in, price_at, price_in, price_of}
use Rattle.pw_report.specs.Layout.{instant_text}
use Rattle.pw_report.specs.Names.{band_name, period_name}

all-got : (P : PeriodText → Type 0) (ps : List PeriodText) (k : ℕ) (x : PeriodText) → All P ps → slice_get ps k ≡ Some x → P x
all-got P [] k x a e = absurd (none-some x e)
all-got P (y ∷ ps) zero x a e = subst P (same_Some y x e) (All-head P y ps a)
all-got P (y ∷ ps) (suc k) x a e = all-got P ps k x (All-tail P y ps a) e

-- ---- each start is an instant
later-instant : (bands : List BandText) (later : List PeriodText) → ((i : ℕ) (p : PeriodText) → slice_get later i ≡ Some p → IsPeriod bands p) →
    (i x : ℕ) → slice_get (map (λ (p : PeriodText). p.start) later) i ≡ Some x → IsInstant x
later-instant bands [] h i x e = absurd (none-some x e)
later-instant bands (p ∷ later) h zero x e = let P : ℕ → Type 0 = IsInstant in subst P (same_Some p.start x e) (h 0 p refl).instant
later-instant bands (p ∷ later) h (suc i) x e = later-instant bands later (λ k q s. h (suc k) q s) i x e

pub start-instant : (file : OfficeFile) (p x : ℕ) → IsSound file → slice_get (period_starts file) p ≡ Some x → IsInstant x
start-instant file zero x s e = let P : ℕ → Type 0 = IsInstant in subst P (same_Some FIRST_SECOND x e) (omega arith, omega arith)
start-instant file (suc p) x s e = later-instant file.bands file.later (λ i q h. all-got (λ (r : PeriodText). IsPeriod file.bands r) file.later i q s.later h) p x e

-- ---- no price where the office has no such period or band
no-period : (file : OfficeFile) (p b : ℕ) (d : Direction) → periods_in file ≤ p → price_at file p b d ≡ 0
unfolding price_at
no-period file zero b d l = absurd (omega (arith, l))
no-period file (suc p) b d l = ap (λ o. price_in o b d) (slice_get_past file.later p (omega (arith, l)))

none-in : (bands : List BandText) (o : Option PeriodText) (b : ℕ) (d : Direction) → ((p : PeriodText) → o ≡ Some p → IsPeriod bands p) → length bands ≤ b → price_in o b d ≡ 0
none-in bands None b d h l = refl
none-in bands (Some p) b Import h l = let e = (h p refl).import_prices.0 in get_or_past p.import_prices b 0 (omega (arith, e, l))
none-in bands (Some p) b Export h l = let e = (h p refl).export_prices.0 in get_or_past p.export_prices b 0 (omega (arith, e, l))

none-of : (o : Option BandText) (d : Direction) → o ≡ None → price_of o d ≡ 0
none-of o d e = ap (λ (q : Option BandText). price_of q d) e

no-band : (file : OfficeFile) (p b : ℕ) (d : Direction) → IsSound file → length file.bands ≤ b → price_at file p b d ≡ 0
unfolding price_at
no-band file zero b d s l = none-of (slice_get file.bands b) d (slice_get_past file.bands b l)
no-band file (suc p) b d s l = none-in file.bands (slice_get file.later p) b d (λ q e. all-got (λ (r : PeriodText). IsPeriod file.bands r) file.later p q s.later e) l

pub no-price : (file : OfficeFile) (p b : ℕ) (d : Direction) → IsSound file → (periods_in file ≤ p) ⊎ (length file.bands ≤ b) → price_at file p b d ≡ 0
no-price file p b d s (inl l) = no-period file p b d l
no-price file p b d s (inr l) = no-band file p b d s l

-- ---- names
pub start-name : (file : OfficeFile) (p x : ℕ) → slice_get (period_starts file) p ≡ Some x → period_name file p ≡ instant_text x
start-name file p x e = ap (λ (o : Option ℕ). unwrap_or (option_map instant_text o) []) e

pub no-name : (file : OfficeFile) (p : ℕ) → periods_in file ≤ p → period_name file p ≡ []
no-name file p l =
    let n : length (period_starts file) ≡ periods_in file = length-starts in
    ap (λ (o : Option ℕ). unwrap_or (option_map instant_text o) []) (slice_get_past (period_starts file) p (omega (arith, n, l)))
  where
    length-starts : length (period_starts file) ≡ periods_in file
    length-starts = let e = length-map file.later (λ (q : PeriodText). q.start) in omega (arith, e)

pub no-letter : (file : OfficeFile) (b : ℕ) → length file.bands ≤ b → band_name file b ≡ []
no-letter file b l = ap (λ (o : Option BandText). unwrap_or (option_map (λ t. t.name ∷ []) o) []) (slice_get_past file.bands b l)
