-- What holds of an office whose file passes all checks.
use Rattle.std.proofs.Common.{◌≡◌, ℕ, zero, suc, ◌≤◌, Option, Some, is_some, unwrap_or, slice_get, List, [], ◌∷◌, ◌++◌, length, map, All, nat_le, not, codes, Bool, true, false, refl, sym, ap, ◌∙◌, arith}
use Rattle.std.proofs.lemmas.List.{length-map, map-id}
use Rattle.std.proofs.lemmas.Option.{none-some, same_Some}
use Rattle.std.proofs.lemmas.Simd.{map-map}
use Rattle.std.proofs.lemmas.Bool.{leb-true}
use Rattle.toml.specs.Data.{Members}
use Rattle.pw_tariff.specs.declared.limits.TheConstants.{MOST_PRICE, MOST_ACCOUNTS, MOST_BANDS, MOST_METERS, LONGEST_ACCOUNT_NAME, LONGEST_METER_ID}
use Rattle.pw_tariff.specs.declared.office.Meter.{Meter}
use Rattle.pw_tariff.specs.Held.{meter_of}
use Rattle.pw_tariff.specs.Office.{IsSound, AreDistinct, BandText, MeterText, overlap}
use Rattle.pw_tariff.specs.Words.{is_price, is_name, is_capital, is_band_name, is_new, clock_named}
use Rattle.pw_tariff.specs.declared.fault.OfficeFault.TheVariants.{MissingField, BadName, TwiceNamed, Week, Price, RegistersOverlap, Empty, TooMany}
use Rattle.pw_tariff.specs.Checks.{Check, check, each_in_turn, length_checks, list_checks}
use Rattle.pw_tariff.specs.inner.Checks.{Passes}
use Rattle.pw_tariff.specs.Text.{has_band_keys, has_meter_keys, clock_of, texts_at, tables_at, accounts_checks, account_checks, bands_checks, meters_checks, week_checks, periods_checks, file_of_table, band_of_table, meter_of_table, meters_of_table, whole_number_of, band_name_of, id_of, register_texts, register_of, registers_of, registers_in_turn, registers_checks, letter_of, is_week, week_of, bands_of_table, band_checks, meter_checks}
use Rattle.pw_tariff.proofs.Behind.{left, right, first-of}
use Rattle.pw_tariff.proofs.Distinct.{distinct}
use Rattle.pw_tariff.proofs.Weeks.{price-bound, week-of}
use Rattle.pw_tariff.proofs.Prices.{listed as listed-periods}

no-truth : false ≡ true → ⊥
no-truth h = cc

each-all : {A T : Type 0} (P : T → Type 0) → (h : A → T) (name : A → List ℕ) (checks : List (List ℕ) → A → List Check) → ((earlier : List (List ℕ)) (x : A) → Passes (checks earlier x) → P (h x)) →
    (earlier : List (List ℕ)) (xs : List A) → Passes (each_in_turn name checks earlier xs) → All P (map h xs)
unfolding each_in_turn
each-all P h name checks k earlier [] p i d l = absurd (omega arith)
each-all P h name checks k earlier (x ∷ xs) p zero d l = k earlier x (left (checks earlier x) _ p)
each-all P h name checks k earlier (x ∷ xs) p (suc i) d l =
    each-all P h name checks k (earlier ++ name x ∷ []) xs (right (checks earlier x) (each_in_turn name checks (earlier ++ name x ∷ []) xs) p) i d (omega arith)

-- a list that passes its checks
pub record IsListed {A : Type 0} (most : ℕ) (name : A → List ℕ) (checks : List (List ℕ) → A → List Check) (xs : List A) : Type 0 where
  pub some : 1 ≤ length xs
  pub few : length xs ≤ most
  pub each : Passes (each_in_turn name checks [] xs)

listed : {A : Type 0} (most : ℕ) (name : A → List ℕ) (checks : List (List ℕ) → A → List Check) (list : Option (List A)) → Passes (list_checks most name checks list) → IsListed most name checks (unwrap_or list [])
listed most name checks list p =
    let xs = unwrap_or list [] in
    let a = first-of (check MissingField (is_some list)) (length_checks (length xs) most ++ each_in_turn name checks [] xs) p in
    let b = first-of (check Empty (nat_le 1 (length xs))) (check TooMany (nat_le (length xs) most) ∷ each_in_turn name checks [] xs) a.1 in
    let c = first-of (check TooMany (nat_le (length xs) most)) (each_in_turn name checks [] xs) b.1 in
    record { some = leb-true 1 (length xs) b.0; few = leb-true (length xs) most c.0; each = c.1 }

last-two : (a b c d e : Check) → Passes (a ∷ b ∷ c ∷ d ∷ e ∷ []) → (d.passes ≡ true) × (e.passes ≡ true)
last-two a b c d e p =
    let k = first-of a (b ∷ c ∷ d ∷ e ∷ []) p in
    let m = first-of b (c ∷ d ∷ e ∷ []) k.1 in
    let n = first-of c (d ∷ e ∷ []) m.1 in
    let i = first-of d (e ∷ []) n.1 in
    (i.0, (first-of e [] i.1).0)

behind-four : (a b c d : Check) (cs : List Check) → Passes (a ∷ b ∷ c ∷ d ∷ cs) → Passes cs
behind-four a b c d cs p =
    let k = first-of a (b ∷ c ∷ d ∷ cs) p in
    let m = first-of b (c ∷ d ∷ cs) k.1 in
    let n = first-of c (d ∷ cs) m.1 in
    (first-of d cs n.1).1

behind-five : (a b c d e : Check) (cs : List Check) → Passes (a ∷ b ∷ c ∷ d ∷ e ∷ cs) → Passes cs
behind-five a b c d e cs p = (first-of e cs (behind-four a b c d (e ∷ cs) p)).1

band-prices : (earlier : List (List ℕ)) (b : Members) → Passes (band_checks earlier b) → ((band_of_table b).import_price ≤ MOST_PRICE) × ((band_of_table b).export_price ≤ MOST_PRICE)
band-prices earlier b p =
    let i = last-two (check MissingField (has_band_keys b)) (check BadName (is_band_name (band_name_of b))) (check TwiceNamed (is_new (band_name_of b) earlier))
    (check Price (is_price (whole_number_of (codes "import") b))) (check Price (is_price (whole_number_of (codes "export") b))) p in
    (price-bound (whole_number_of (codes "import") b) i.0, price-bound (whole_number_of (codes "export") b) i.1)

negated : (b : Bool) → not b ≡ true → b ≡ false
negated true h = absurd (no-truth h)
negated false h = refl

meter-totals : (earlier : List (List ℕ)) (m : Members) → Passes (meter_checks earlier m) → overlap (meter_of_table m).registers ≡ false
meter-totals earlier m p =
    let last = check RegistersOverlap (not (overlap (registers_of (register_texts m)))) ∷ [] in
    let s = behind-five (check MissingField (has_meter_keys m)) (check BadName (is_name LONGEST_METER_ID (id_of m))) (check TwiceNamed (is_new (id_of m) earlier))
    (check BadName (is_some (clock_named (clock_of m)))) (check Empty (nat_le 1 (length (register_texts m)))) (registers_in_turn (register_texts m) ++ last) p in
    let o = right (registers_in_turn (register_texts m)) last s in
    negated (overlap (registers_of (register_texts m))) (first-of (check RegistersOverlap (not (overlap (registers_of (register_texts m))))) [] o).0

-- ---- names
account-word : (earlier : List (List ℕ)) (name : List ℕ) → Passes (account_checks earlier name) → is_name LONGEST_ACCOUNT_NAME name ≡ true
account-word earlier name p = (first-of (check BadName (is_name LONGEST_ACCOUNT_NAME name)) (check TwiceNamed (is_new name earlier) ∷ []) p).0

account-new : (earlier : List (List ℕ)) (name : List ℕ) → Passes (account_checks earlier name) → is_new name earlier ≡ true
account-new earlier name p =
    let k = first-of (check BadName (is_name LONGEST_ACCOUNT_NAME name)) (check TwiceNamed (is_new name earlier) ∷ []) p in
    (first-of (check TwiceNamed (is_new name earlier)) [] k.1).0

-- of checks that begin with what is missing, the name, and whether it is new
word-and-new : (a b c : Check) (cs : List Check) → Passes (a ∷ b ∷ c ∷ cs) → (b.passes ≡ true) × (c.passes ≡ true)
word-and-new a b c cs p =
    let k = first-of a (b ∷ c ∷ cs) p in
    let m = first-of b (c ∷ cs) k.1 in
    (m.0, (first-of c cs m.1).0)

band-named : (earlier : List (List ℕ)) (b : Members) → Passes (band_checks earlier b) → (is_band_name (band_name_of b) ≡ true) × (is_new (band_name_of b) earlier ≡ true)
band-named earlier b p = word-and-new (check MissingField (has_band_keys b)) (check BadName (is_band_name (band_name_of b))) (check TwiceNamed (is_new (band_name_of b) earlier))
    (check Price (is_price (whole_number_of (codes "import") b)) ∷ check Price (is_price (whole_number_of (codes "export") b)) ∷ []) p

meter-named : (earlier : List (List ℕ)) (m : Members) → Passes (meter_checks earlier m) → (is_name LONGEST_METER_ID (id_of m) ≡ true) × (is_new (id_of m) earlier ≡ true)
meter-named earlier m p = word-and-new (check MissingField (has_meter_keys m)) (check BadName (is_name LONGEST_METER_ID (id_of m))) (check TwiceNamed (is_new (id_of m) earlier))
    (check BadName (is_some (clock_named (clock_of m))) ∷ registers_checks (register_texts m)) p

one-letter : (name : List ℕ) → is_band_name name ≡ true → (is_capital (letter_of name) ≡ true) × (name ≡ letter_of name ∷ [])
one-letter [] h = absurd (no-truth h)
one-letter (c ∷ []) h = (h, refl)
one-letter (c ∷ d ∷ name) h = absurd (no-truth h)

band-letter : (earlier : List (List ℕ)) (b : Members) → Passes (band_checks earlier b) → is_capital (band_of_table b).name ≡ true
band-letter earlier b p = (one-letter (band_name_of b) (band-named earlier b p).0).0

-- bands whose names are distinct have distinct letters
letter-text : (names : List (List ℕ)) → All (λ name. is_band_name name ≡ true) names → (i c : ℕ) → slice_get (map letter_of names) i ≡ Some c → slice_get names i ≡ Some (c ∷ [])
letter-text [] h i c g = absurd (none-some c g)
letter-text (n ∷ names) h zero c g =
    let k = (one-letter n (h zero [] (omega arith))).1 in
    rw (k, same_Some (letter_of n) c g) refl
letter-text (n ∷ names) h (suc i) c g = letter-text names (λ j d l. h (suc j) d (omega (arith, l))) i c g

letters-distinct : (names : List (List ℕ)) → All (λ name. is_band_name name ≡ true) names → AreDistinct names → AreDistinct (map letter_of names)
letters-distinct names h d i j c a b = d i j (c ∷ []) (letter-text names h i c a) (letter-text names h j c b)

meter-registers : (earlier : List (List ℕ)) (m : Members) → Passes (meter_checks earlier m) → 1 ≤ length (meter_of_table m).registers
meter-registers earlier m p =
    let empty = check Empty (nat_le 1 (length (register_texts m))) in
    let behind = registers_in_turn (register_texts m) ++ check RegistersOverlap (not (overlap (registers_of (register_texts m)))) ∷ [] in
    let k = behind-four (check MissingField (has_meter_keys m)) (check BadName (is_name LONGEST_METER_ID (id_of m))) (check TwiceNamed (is_new (id_of m) earlier)) (check BadName (is_some (clock_named (clock_of m)))) (empty ∷ behind) p in
    rw (length-map (register_texts m) register_of) (leb-true 1 (length (register_texts m)) (first-of empty behind k).0)

-- the meters that were read are no more than an office may have
pub few-meters : (t : Members) (held : List Meter) → Passes (meters_checks t) → map meter_of held ≡ meters_of_table t → length held ≤ MOST_METERS
few-meters t held m e =
    let meters = unwrap_or (tables_at (codes "meter") t) [] in
    let n = listed MOST_METERS id_of meter_checks (tables_at (codes "meter") t) m in
    let l : length held ≡ length meters = sym (length-map held meter_of) ∙ ap (λ (ms : List MeterText). length ms) e ∙ length-map meters meter_of_table in
    rw l n.few

pub sound : (t : Members) → Passes (accounts_checks t) → Passes (bands_checks t) → Passes (meters_checks t) → Passes (week_checks t) → Passes (periods_checks t) → IsSound (file_of_table t)
sound t p q m w r =
    let a = listed MOST_ACCOUNTS (λ (name : List ℕ). name) account_checks (texts_at (codes "accounts") t) p in
    let b = listed MOST_BANDS band_name_of band_checks (tables_at (codes "band") t) q in
    let n = listed MOST_METERS id_of meter_checks (tables_at (codes "meter") t) m in
    let there = first-of (check MissingField (is_some (texts_at (codes "week") t))) (check Week (is_week (bands_of_table t) (week_of t)) ∷ []) w in
    let week = first-of (check Week (is_week (bands_of_table t) (week_of t))) [] there.1 in
    let periods = listed-periods t r in
    let bl : length (bands_of_table t) ≡ length (unwrap_or (tables_at (codes "band") t) []) = length-map (unwrap_or (tables_at (codes "band") t) []) band_of_table in
    let ml : length (map meter_of_table (unwrap_or (tables_at (codes "meter") t) [])) ≡ length (unwrap_or (tables_at (codes "meter") t) []) = length-map (unwrap_or (tables_at (codes "meter") t) []) meter_of_table in
    let names = unwrap_or (texts_at (codes "accounts") t) [] in
    let bands = unwrap_or (tables_at (codes "band") t) [] in
    let meters = unwrap_or (tables_at (codes "meter") t) [] in
    let all_names = each-all (λ (n : List ℕ). is_name LONGEST_ACCOUNT_NAME n ≡ true) (λ (n : List ℕ). n) (λ (n : List ℕ). n) account_checks account-word [] names a.each in
    let all_letters = each-all (λ (n : List ℕ). is_band_name n ≡ true) band_name_of band_name_of band_checks (λ e x p. (band-named e x p).0) [] bands b.each in
    let apart_names = distinct (λ (n : List ℕ). n) account_checks account-new names a.each in
    let apart_bands = distinct band_name_of band_checks (λ e x p. (band-named e x p).1) bands b.each in
    let apart_meters = distinct id_of meter_checks (λ e x p. (meter-named e x p).1) meters n.each in
    record {
      named = record {
        accounts = rw (map-id names) at apart_names;
        meters = rw (map-map (λ (x : MeterText). x.id) meter_of_table meters) apart_meters;
        bands = rw (map-map (λ (x : BandText). x.name) band_of_table bands, ← (map-map letter_of band_name_of bands)) (letters-distinct (map band_name_of bands) all_letters apart_bands);
      };
      written = record {
        accounts = rw (map-id names) at all_names;
        meters = each-all (λ (x : MeterText). is_name LONGEST_METER_ID x.id ≡ true) meter_of_table id_of meter_checks (λ e x p. (meter-named e x p).0) [] meters n.each;
        bands = each-all (λ (x : BandText). is_capital x.name ≡ true) band_of_table band_name_of band_checks band-letter [] bands b.each;
        registers = each-all (λ (x : MeterText). 1 ≤ length x.registers) meter_of_table id_of meter_checks meter-registers [] meters n.each;
      };
      accounts = (a.some, a.few);
      bands = rw bl (b.some, b.few);
      meters = rw ml (n.some, n.few);
      prices = each-all (λ (x : BandText). (x.import_price ≤ MOST_PRICE) × (x.export_price ≤ MOST_PRICE)) band_of_table band_name_of band_checks band-prices [] _ b.each;
      totals = each-all (λ (x : MeterText). overlap x.registers ≡ false) meter_of_table id_of meter_checks meter-totals [] _ n.each;
      week = week-of (bands_of_table t) (week_of t) week.0;
      periods = periods.few;
      later = periods.sound.each;
      in_time = periods.sound.in_time;
    }
