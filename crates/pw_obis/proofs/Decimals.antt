-- Numbers of digits, and their first three decimals.
use Rattle.std.proofs.Common.{true, false, zero, suc, ◌≡◌, ℕ, ◌+◌, ◌-◌, ◌*◌, ◌/◌, ◌^◌, ◌<◌, ◌≤◌, min, ⊎_elim, List, [], ◌∷◌, ◌++◌, length, take, drop, refl, sym, ap, ◌∙◌, subst, arith, get_or}
use Rattle.std.specs.Prelude.{slice_index, IsTrue, ◌↔◌, Bool}
use Rattle.std.specs.Char.{digit_value, is_ascii_digit}
use Rattle.std.specs.Str.Parse.{digits_value, digits_value_after, AllDigits}
use Rattle.std.proofs.lemmas.List.{drop_more, get_or_append_left, get_or_at, take_at, drop_at, length-append, take_min, take_rest, take_all, append_assoc}
use Rattle.std.proofs.lemmas.Bool.{cases_lt}
use Rattle.std.proofs.Math.Nat.{min_comm, mul-le-mul_left, div-one, pow-suc, div-div-eq-div-mul, mul-div-mul_right}
use Rattle.pw_obis.specs.declared.energy.TheConstants.{LARGEST_WATT_HOURS}
use Rattle.pw_obis.specs.Value.{thousandths, Decimal}

pub digit_in : (c : ℕ) → digit_value c < 10 → (48 ≤ c) × (c ≤ 57)
digit_in c l = grind arith

pub digit_is : (c : ℕ) → 48 ≤ c → c ≤ 57 → digit_value c ≡ c - 48
digit_is c l m = grind arith

pub after-ge : (n : ℕ) (ds : List ℕ) → n ≤ digits_value_after 10 n ds
after-ge n [] = omega arith
after-ge n (c ∷ cs) = omega (arith, after-ge (n * 10 + digit_value c) cs)

pub after-append : (n : ℕ) (xs ys : List ℕ) → digits_value_after 10 n (xs ++ ys) ≡ digits_value_after 10 (digits_value_after 10 n xs) ys
after-append n [] ys = refl
after-append n (x ∷ xs) ys = after-append (n * 10 + digit_value x) xs ys

after_div : (n : ℕ) (ds : List ℕ) → AllDigits 10 ds → digits_value_after 10 n ds / 10 ^ length ds ≡ n
after_div n [] d = div-one n
after_div n (c ∷ cs) d =
    ap (λ p. digits_value_after 10 (n * 10 + digit_value c) cs / p) (pow-suc 10 (length cs))
    ∙ sym (div-div-eq-div-mul (digits_value_after 10 (n * 10 + digit_value c) cs) (10 ^ length cs) 10)
    ∙ ap (λ x. x / 10) (after_div (n * 10 + digit_value c) cs d.1)
    ∙ omega (arith, d.0)

three : (m : ℕ) → 10 ^ suc (suc (suc m)) ≡ 10 ^ m * 1000
three m = omega (arith, pow-suc 10 m, pow-suc 10 (suc m), pow-suc 10 (suc (suc m)))

-- the first three decimals alone count
pub by_three : (n : ℕ) (ds : List ℕ) → AllDigits 10 ds
    → digits_value_after 10 n ds * 1000 / 10 ^ length ds ≡ digits_value_after 10 n (take 3 ds) * 10 ^ (3 - length (take 3 ds))
by_three n [] d = div-one (n * 1000)
by_three n (a ∷ []) d = omega arith
by_three n (a ∷ b ∷ []) d = omega arith
by_three n (a ∷ b ∷ c ∷ ds) d =
    ap (λ p. digits_value_after 10 (((n * 10 + digit_value a) * 10 + digit_value b) * 10 + digit_value c) ds * 1000 / p) (three (length ds))
    ∙ mul-div-mul_right (digits_value_after 10 (((n * 10 + digit_value a) * 10 + digit_value b) * 10 + digit_value c) ds) (10 ^ length ds) (omega arith)
    ∙ after_div (((n * 10 + digit_value a) * 10 + digit_value b) * 10 + digit_value c) ds d.1.1.1
    ∙ omega arith

pub thousandths_is : (whole decimals : List ℕ) → AllDigits 10 decimals
    → thousandths whole decimals ≡ digits_value_after 10 (digits_value 10 whole) (take 3 decimals) * 10 ^ (3 - length (take 3 decimals))
thousandths_is whole decimals d =
    ap (λ n. n * 1000 / 10 ^ length decimals) (after-append 0 whole decimals) ∙ by_three (digits_value 10 whole) decimals d

-- ---- a loop over digits

pub digits_at : (xs : List ℕ) (i : ℕ) → i < length xs → AllDigits 10 (drop i xs) → (digit_value (get_or xs i 0) < 10) × AllDigits 10 (drop (i + 1) xs)
digits_at xs i l d = subst (AllDigits 10) (drop_more xs i 0 l) d

pub digits_put : (xs : List ℕ) (i : ℕ) → i < length xs → digit_value (get_or xs i 0) < 10 → AllDigits 10 (drop (i + 1) xs) → AllDigits 10 (drop i xs)
digits_put xs i l h d = subst (AllDigits 10) (sym (drop_more xs i 0 l)) (h, d)

pub digit_yes : (c : ℕ) → is_ascii_digit c ≡ true → digit_value c < 10
digit_yes c e = grind arith

pub digit_no : (c : ℕ) → is_ascii_digit c ≡ false → digit_value c < 10 → ⊥
digit_no c e l = grind arith

-- past the bound in the middle is past it at the end
pub past_most : (most : ℕ) (xs : List ℕ) (i n : ℕ) → i < length xs → AllDigits 10 (drop i xs) → most < n * 10 + (get_or xs i 0 - 48) → most < digits_value_after 10 n (drop i xs)
past_most most xs i n l d m =
    let h : digit_value (get_or xs i 0) < 10 = (digits_at xs i l d).0 in
    let e : digit_value (get_or xs i 0) ≡ get_or xs i 0 - 48 = digit_is _ (digit_in _ h).0 (digit_in _ h).1 in
    let s : digits_value_after 10 n (drop i xs) ≡ digits_value_after 10 (n * 10 + digit_value (get_or xs i 0)) (drop (i + 1) xs) = ap (digits_value_after 10 n) (drop_more xs i 0 l) in
    omega (arith, e, s, m, after-ge (n * 10 + digit_value (get_or xs i 0)) (drop (i + 1) xs))

-- ---- a decimal number's value against the LARGEST_WATT_HOURS

ten_pos : (k : ℕ) → 1 ≤ 10 ^ k
ten_pos zero = omega arith
ten_pos (suc k) = omega (arith, pow-suc 10 k, ten_pos k)

stays : (n k : ℕ) → n ≤ n * 10 ^ k
stays n k = omega (arith, mul-le-mul_left n (ten_pos k))

pub taken_is : (xs : List ℕ) → take (min (length xs) 3) xs ≡ take 3 xs
taken_is xs = ap (λ n. take n xs) (min_comm (length xs) 3) ∙ take_min 3 xs

pub big_taken : (whole decimals : List ℕ) (kilo : ℕ) → AllDigits 10 decimals → kilo ≡ digits_value 10 whole
    → LARGEST_WATT_HOURS < digits_value_after 10 kilo (take 3 decimals) → LARGEST_WATT_HOURS < thousandths whole decimals
big_taken whole decimals kilo d e l =
    let s : digits_value_after 10 kilo (take 3 decimals) ≡ digits_value_after 10 (digits_value 10 whole) (take 3 decimals) = ap (λ k. digits_value_after 10 k (take 3 decimals)) e in
    omega (arith, s, l, thousandths_is whole decimals d, stays (digits_value_after 10 (digits_value 10 whole) (take 3 decimals)) (3 - length (take 3 decimals)))

pub big_whole : (whole decimals : List ℕ) → AllDigits 10 decimals → LARGEST_WATT_HOURS < digits_value 10 whole → LARGEST_WATT_HOURS < thousandths whole decimals
big_whole whole decimals d l =
    let m : LARGEST_WATT_HOURS < digits_value_after 10 (digits_value 10 whole) (take 3 decimals) = omega (arith, l, after-ge (digits_value 10 whole) (take 3 decimals)) in
    big_taken whole decimals (digits_value 10 whole) d refl m

-- ---- the parts of a number

pub no_point : (ds : List ℕ) (i : ℕ) → AllDigits 10 ds → slice_index ds i ≡ 46 → ⊥
no_point [] i d e = omega (arith, e)
no_point (c ∷ cs) zero d e = omega (arith, digit_in c d.0, e)
no_point (c ∷ cs) (suc i) d e = no_point cs i d.1 e

-- where the whole digits end, a point stands or the number ends
pub whole_length : (number whole decimals : List ℕ) (point : ℕ) → Decimal number whole decimals → point ≤ length number
    → ((k : ℕ) → k < point → slice_index number k ≡ 46 → ⊥) → (point < length number → slice_index number point ≡ 46) → length whole ≡ point
whole_length number whole decimals point (x) l before found = ⊎_elim
    (λ s.
    let e : number ≡ whole = s.0 in
    let size : length number ≡ length whole = ap length e in
    ⊎_elim
    (λ (m : point < length number). absurd (no_point whole point x.digits (sym (ap (λ t. get_or t point 0) e) ∙ found m)))
    (λ (m : length number ≤ point). omega arith)
    (cases_lt point (length number)))
    (λ s.
    let e : number ≡ whole ++ 46 ∷ decimals = s.0 in
    let size : length number ≡ length whole + suc (length decimals) = ap length e ∙ length-append whole (46 ∷ decimals) in
    let mark : slice_index number (length whole) ≡ 46 = ap (λ t. get_or t (length whole) 0) e ∙ get_or_at whole 46 decimals 0 (length whole) refl in
    ⊎_elim
    (λ (m : length whole < point). absurd (before (length whole) m mark))
    (λ (n : point ≤ length whole). ⊎_elim
    (λ (m : point < length whole). absurd (no_point whole point x.digits
    (sym (get_or_append_left whole (46 ∷ decimals) 0 point m) ∙ sym (ap (λ t. get_or t point 0) e) ∙ found (omega (arith, size)))))
    (λ (m : length whole ≤ point). omega arith)
    (cases_lt point (length whole)))
    (cases_lt (length whole) point))
    x.spelled

pub whole_is : (number whole decimals : List ℕ) (point : ℕ) → Decimal number whole decimals → length whole ≡ point → take point number ≡ whole
whole_is number whole decimals point x e = ⊎_elim
    (λ s. ap (take point) s.0 ∙ take_all point whole (omega (arith, e)))
    (λ s. ap (take point) s.0 ∙ take_at whole (46 ∷ decimals) point e)
    x.spelled

pub decimals_are : (number whole decimals : List ℕ) (point : ℕ) → Decimal number whole decimals → length whole ≡ point → (point ≡ length number → ⊥)
    → (drop (point + 1) number ≡ decimals) × (0 < length decimals)
decimals_are number whole decimals point x e n = ⊎_elim
    (λ s. absurd (n (sym e ∙ sym (ap length s.0))))
    (λ s. (
      ap (drop (point + 1)) s.0
          ∙ (let f : length (whole ++ 46 ∷ []) ≡ point + 1 = length-append whole (46 ∷ []) ∙ omega (arith, e) in
          ap (drop (point + 1)) (sym (append_assoc whole (46 ∷ []) decimals)) ∙ drop_at (whole ++ 46 ∷ []) decimals (point + 1) f),
      s.1,
    ))
    x.spelled

pub not_true : (b : Bool) {P : Type 0} → b ≡ false → (IsTrue b ↔ P) → P → ⊥
not_true true e f p = cc
not_true false e f p = (let h : IsTrue false = f.1 p in let g : false ≡ true = h in cc)

pub taken_at : (xs : List ℕ) (m : ℕ) → m ≡ min (length xs) 3 → take m xs ≡ take 3 xs
taken_at xs m e = ap (λ n. take n xs) e ∙ taken_is xs

pub big_at : (whole decimals : List ℕ) (kilo m : ℕ) → AllDigits 10 decimals → kilo ≡ digits_value 10 whole → m ≡ min (length decimals) 3
    → LARGEST_WATT_HOURS < digits_value_after 10 kilo (take m decimals) → LARGEST_WATT_HOURS < thousandths whole decimals
big_at whole decimals kilo m d e f l = big_taken whole decimals kilo d e (subst (λ (t : List ℕ). LARGEST_WATT_HOURS < digits_value_after 10 kilo t) (taken_at decimals m f) l)

pub scaled_is : (whole decimals : List ℕ) (kilo m n p : ℕ) → AllDigits 10 decimals → kilo ≡ digits_value 10 whole → m ≡ min (length decimals) 3
    → n ≡ digits_value_after 10 kilo (take m decimals) → p ≡ 10 ^ (3 - length (take m decimals)) → n * p ≡ thousandths whole decimals
scaled_is whole decimals kilo m n p d e f g h =
    ap (λ x. x * p) g
    ∙ ap (λ x. digits_value_after 10 kilo (take m decimals) * x) h
    ∙ ap (λ (t : List ℕ). digits_value_after 10 kilo t * 10 ^ (3 - length t)) (taken_at decimals m f)
    ∙ ap (λ k. digits_value_after 10 k (take 3 decimals) * 10 ^ (3 - length (take 3 decimals))) e
    ∙ sym (thousandths_is whole decimals d)

pub not_whole : (number whole decimals : List ℕ) (point : ℕ) → Decimal number whole decimals → point ≤ length number
    → ((k : ℕ) → k < point → slice_index number k ≡ 46 → ⊥) → (point < length number → slice_index number point ≡ 46)
    → ((0 < length (take point number)) × AllDigits 10 (take point number) → ⊥) → ⊥
not_whole number whole decimals point x l before found bad =
    let e : take point number ≡ whole = whole_is number whole decimals point x (whole_length number whole decimals point x l before found) in
    bad (subst (λ (t : List ℕ). (0 < length t) × AllDigits 10 t) (sym e) (x.some, x.digits))

pub not_decimals : (number whole decimals : List ℕ) (point : ℕ) → Decimal number whole decimals → point ≤ length number
    → ((k : ℕ) → k < point → slice_index number k ≡ 46 → ⊥) → (point < length number → slice_index number point ≡ 46) → (point ≡ length number → ⊥)
    → ((0 < length (take (length number - (point + 1)) (drop (point + 1) number))) × AllDigits 10 (take (length number - (point + 1)) (drop (point + 1) number)) → ⊥) → ⊥
not_decimals number whole decimals point x l before found n bad =
    let e : (drop (point + 1) number ≡ decimals) × (0 < length decimals) = decimals_are number whole decimals point x (whole_length number whole decimals point x l before found) n in
    bad (subst (λ (t : List ℕ). (0 < length t) × AllDigits 10 t) (sym (take_rest number (point + 1) ∙ e.0)) (e.1, x.more))
