-- What stands in a list under a name.
use Rattle.std.proofs.Common.{◌≡◌, ◌==◌, ℕ, zero, suc, ◌+◌, ◌<◌, ◌≤◌, Option, Some, None, option_map, slice_get, List, [], ◌∷◌, length, map, drop, get_or, true, false, refl, String, Global, string_bytes, sym, ◌∙◌, ap, subst, All, arith, inl, inr}
use Rattle.std.specs.Cmp.Lexicographic.{pointwise}
use Rattle.std.proofs.lemmas.Bool.{cases_lt, cases_eq, eq-eqb, ne_eqb}
use Rattle.std.proofs.lemmas.Option.{slice_get_read, slice_get_past, none-some, same_Some, slice_get-map}
use Rattle.std.proofs.lemmas.List.{get_or-map, length-map, drop_more}
use Rattle.std.proofs.Math.ListN.{drop_of_length-le}
use Rattle.pw_tariff.specs.Words.{same_text, is_new}
use Rattle.std.proofs.lemmas.List.Sums.{position_or_len_is}
use Rattle.pw_tariff.specs.declared.office.Band.{Band}
use Rattle.pw_tariff.specs.declared.office.Meter.{Meter}
use Rattle.pw_tariff.specs.Office.{BandText, MeterText, IsDay, band_named}
use Rattle.pw_tariff.specs.declared.limits.TheConstants.{MOST_PRICE}
use Rattle.pw_tariff.specs.Held.{band_of, bands_of, meter_of}

no-name : Band
no-name = record { name = 0; import_price = 0; export_price = 0 }

get_or-any : {X : Type 0} (xs : List X) (i : ℕ) (d e : X) → i < length xs → get_or xs i d ≡ get_or xs i e
get_or-any [] i d e l = absurd (omega arith)
get_or-any (x ∷ xs) zero d e l = refl
get_or-any (x ∷ xs) (suc i) d e l = get_or-any xs i d e (omega arith)

no-truth : false ≡ true → ⊥
no-truth h = cc

pub same-text : (a b : List ℕ) → pointwise ◌==◌ a b ≡ true → a ≡ b
same-text [] [] h = refl
same-text [] (y ∷ b) h = absurd (no-truth h)
same-text (x ∷ a) [] h = absurd (no-truth h)
same-text (x ∷ a) (y ∷ b) h =
    elim (cases_eq x y) [
      | inl e ↦ (let t = same-text a b (rw (eq-eqb x y e) at h) in cc)
      | inr d ↦ absurd (no-truth (rw (ne_eqb x y d) at h))
    ]

pub own-text : (a : List ℕ) → pointwise ◌==◌ a a ≡ true
own-text [] = refl
own-text (x ∷ a) = rw (eq-eqb x x refl) (own-text a)

named-here : {X : Type 0} (f : X → List ℕ) → (xs : List X) (i : ℕ) (x : X) (name : List ℕ) → i < length xs → x ≡ get_or xs i x → pointwise ◌==◌ (f x) name ≡ true → option_map f (slice_get xs i) ≡ Some name
named-here f xs i x name l e t = rw (slice_get_read xs (length xs) i x refl l e) (ap Some (same-text (f x) name t))

-- the same, of a list that is equal to the one that was walked over
pub found-here : {X : Type 0} (f : X → List ℕ) → (whole xs : List X) (i : ℕ) (x : X) (name : List ℕ) → xs ≡ whole → i < length xs → x ≡ get_or xs i x → pointwise ◌==◌ (f x) name ≡ true → option_map f (slice_get whole i) ≡ Some name
found-here f whole xs i x name same l e t = subst (λ ys. option_map f (slice_get ys i) ≡ Some name) same (named-here f xs i x name l e t)

pub unnamed-more : {X : Type 0} (f : X → List ℕ) → (xs : List X) (i : ℕ) (x : X) (name : List ℕ) → i < length xs → x ≡ get_or xs i x → pointwise ◌==◌ (f x) name ≡ false →
    ((k : ℕ) → k < i → option_map f (slice_get xs k) ≡ Some name → ⊥) → (k : ℕ) → k < i + 1 → option_map f (slice_get xs k) ≡ Some name → ⊥
unnamed-more f xs i x name l e t h k m n =
    elim (cases_lt k i) [
      | inl b ↦ h k b n
      | inr b ↦ (
          let p : k ≡ i = omega arith in
          let r : slice_get xs i ≡ Some x = slice_get_read xs (length xs) i x refl l e in
          let n2 = rw (p, r) at n in
          let s : f x ≡ name = same_Some (f x) name n2 in
          let u : pointwise ◌==◌ (f x) (f x) ≡ false = rw (← s) at t in
          no-truth (sym u ∙ own-text (f x)))
    ]

pub unnamed : {X : Type 0} (f : X → List ℕ) → (xs : List X) (i : ℕ) (name : List ℕ) → length xs ≤ i →
    ((k : ℕ) → k < i → option_map f (slice_get xs k) ≡ Some name → ⊥) → (k : ℕ) → option_map f (slice_get xs k) ≡ Some name → ⊥
unnamed f xs i name l h k n =
    elim (cases_lt k i) [
      | inl b ↦ h k b n
      | inr b ↦ (let r : slice_get xs k ≡ None = slice_get_past xs k (omega arith) in none-some name (rw r at n))
    ]

pub map-twice : {X Y Z : Type 0} (f : X → Y) (g : Y → Z) → (o : Option X) → option_map g (option_map f o) ≡ option_map (λ x. g (f x)) o
map-twice f g None = refl
map-twice f g (Some x) = refl

-- the id of a meter as the program holds it
pub id-of : (ms : List Meter) (i : ℕ) → option_map (λ (m : MeterText). m.id) (slice_get (map meter_of ms) i) ≡ option_map (λ (m : Meter). string_bytes m.id) (slice_get ms i)
id-of ms i = rw (slice_get-map meter_of ms i) (map-twice meter_of (λ (m : MeterText). m.id) (slice_get ms i))

-- ---- bands
pub band-here : (bs : List Band) (i : ℕ) (e d : Band) (letter : ℕ) → i < length bs → (get_or bs i e).name ≡ letter → ((get_or bs i d).name == letter) ≡ true
band-here bs i e d letter l h = let s : get_or bs i d ≡ get_or bs i e = get_or-any bs i d e l in rw s (eq-eqb _ _ h)

pub first-band : (bs : List Band) (i letter : ℕ) → i ≤ length bs → ((k : ℕ) (d : Band) → k < i → ((get_or bs k d).name == letter) ≡ false) →
    ((d : Band) → i < length bs → ((get_or bs i d).name == letter) ≡ true) → i ≡ band_named (bands_of bs) letter
first-band bs i letter l f t =
    let n : length (bands_of bs) ≡ length bs = length-map bs band_of in
    sym (position_or_len_is (λ (b : BandText). b.name == letter) (bands_of bs) i (band_of no-name) (omega arith)
    (λ k h. rw (get_or-map band_of bs k no-name (band_of no-name) (omega arith)) (f k no-name h))
    (λ h. rw (get_or-map band_of bs i no-name (band_of no-name) (omega arith)) (t no-name (omega arith))))

-- the band at a place, as the program read it
pub band-read : (bs : List Band) (i : ℕ) (b : Band) → i < length (bands_of bs) → b ≡ get_or bs i b → slice_get (bands_of bs) i ≡ Some (band_of b)
band-read bs i b l e =
    let n : length (bands_of bs) ≡ length bs = length-map bs band_of in
    slice_get-map band_of bs i ∙ ap (option_map band_of) (slice_get_read bs (length bs) i b refl (omega arith) e)

pub band-bound : (bs : List Band) (i : ℕ) (b : Band) → i < length (bands_of bs) → b ≡ get_or bs i b →
    All (λ (t : BandText). (t.import_price ≤ MOST_PRICE) × (t.export_price ≤ MOST_PRICE)) (bands_of bs) → (b.import_price ≤ MOST_PRICE) × (b.export_price ≤ MOST_PRICE)
band-bound bs i b l e h =
    let n : length (bands_of bs) ≡ length bs = length-map bs band_of in
    let P : BandText → Type 0 = λ t. (t.import_price ≤ MOST_PRICE) × (t.export_price ≤ MOST_PRICE) in
    let same : get_or (bands_of bs) i (band_of b) ≡ band_of b = get_or-map band_of bs i b (band_of b) (omega arith) ∙ ap band_of (sym e) in
    subst P same (h i (band_of b) l)

-- ---- the week
pub within-week : (ws : List (String Global)) {day : ℕ} → length (map string_bytes ws) ≡ 7 → day < 7 → day < length ws
within-week ws h l = let n : length (map string_bytes ws) ≡ length ws = length-map ws string_bytes in omega arith

pub day-read : (ws : List (String Global)) (i : ℕ) (r : String Global) → i < length ws → r ≡ get_or ws i r → get_or (map string_bytes ws) i [] ≡ string_bytes r
day-read ws i r l e = get_or-map string_bytes ws i r [] l ∙ ap string_bytes (sym e)

pub day-is : (bands : List BandText) (ws : List (String Global)) (i : ℕ) (r : String Global) → i < length ws → r ≡ get_or ws i r → All (IsDay bands) (map string_bytes ws) → IsDay bands (string_bytes r)
day-is bands ws i r l e h =
    let n : length (map string_bytes ws) ≡ length ws = length-map ws string_bytes in
    subst (IsDay bands) (day-read ws i r l e) (h i [] (omega arith))

pub letter-named : (bands : List BandText) (day : List ℕ) (hour : ℕ) → IsDay bands day → hour < 24 → band_named bands (get_or day hour 0) < length bands
letter-named bands day hour d l = let n : length day ≡ 24 = d.0 in d.1 hour 0 (omega arith)

-- ---- names met before
drop-step : {X : Type 0} (xs : List X) (i : ℕ) (x : X) → i < length xs → x ≡ get_or xs i x → drop i xs ≡ x ∷ drop (i + 1) xs
drop-step xs i x l e = drop_more xs i x l ∙ ap (λ y. y ∷ drop (i + 1) xs) (sym e)

pub met-here : {X : Type 0} (f : X → List ℕ) → (xs : List X) (i : ℕ) (x : X) (name : List ℕ) → i < length xs → x ≡ get_or xs i x → same_text (f x) name ≡ true →
    is_new name (map f (drop i xs)) ≡ false
met-here f xs i x name l e t = rw (drop-step xs i x l e, t) refl

pub unmet-more : {X : Type 0} (f : X → List ℕ) → (xs : List X) (i : ℕ) (x : X) (name : List ℕ) → i < length xs → x ≡ get_or xs i x → same_text (f x) name ≡ false →
    is_new name (map f (drop i xs)) ≡ is_new name (map f (drop (i + 1) xs))
unmet-more f xs i x name l e t = rw (drop-step xs i x l e, t) refl

pub unmet : {X : Type 0} (f : X → List ℕ) → (xs : List X) (i : ℕ) (name : List ℕ) → length xs ≤ i → is_new name (map f (drop i xs)) ≡ true
unmet f xs i name l = let n : drop i xs ≡ [] = drop_of_length-le xs l in rw n refl
