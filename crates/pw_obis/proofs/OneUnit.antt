-- A text has one number and one unit.
use Rattle.std.proofs.Common.{◌≡◌, ℕ, ◌+◌, ◌<◌, ◌≤◌, ⊎_elim, ◌⊎◌, inl, inr, List, [], ◌∷◌, ◌++◌, length, drop, Result, Ok, Err, refl, sym, ap, ◌∙◌, subst, arith, get_or}
use Rattle.std.specs.Prelude.{slice_index, codes}
use Rattle.std.proofs.lemmas.List.{get_or_append_left, get_or_at, drop_at, length-append}
use Rattle.std.proofs.lemmas.Bool.{cases_lt}
use Rattle.pw_obis.proofs.FirstMark.{one_mark}
use Rattle.pw_obis.specs.declared.value.EnergyUnit.{EnergyUnit}
use Rattle.pw_obis.specs.declared.value.EnergyUnit.TheVariants.{KilowattHour, WattHour}
use Rattle.pw_obis.specs.declared.value.ValueFault.{ValueFault}
use Rattle.pw_obis.specs.declared.value.ValueFault.TheVariants.{Digits, Unit as UnitFault, TooLarge}
use Rattle.std.specs.Str.Parse.{AllDigits}
use Rattle.pw_obis.proofs.Decimals.{no_point}
use Rattle.pw_obis.specs.Value.{InUnit, Decimal, thousandths, IsNumberOf, unit_text, StatesWattHours, HasUnit, IsEnergy}
use Rattle.pw_obis.specs.inner.Numbers.{IsCounted}

-- the number before the first `*` is as long as the place of the first `*`
number_length : (text number unit : List ℕ) (star : ℕ) → InUnit text number unit
    → ((k : ℕ) → k < star → slice_index text k ≡ 42 → ⊥) → (star < length text → slice_index text star ≡ 42) → length number ≡ star
number_length text number unit star x before found =
    let mark : slice_index text (length number) ≡ 42 = ap (λ t. get_or t (length number) 0) x.spelled ∙ get_or_at number 42 unit 0 (length number) refl in
    let size : length text ≡ length number + length (42 ∷ unit) = ap length x.spelled ∙ length-append number (42 ∷ unit) in
    ⊎_elim
    (λ (l : length number < star). absurd (before (length number) l mark))
    (λ (m : star ≤ length number). ⊎_elim
    (λ (l : star < length number). absurd (x.first star l
    (sym (get_or_append_left number (42 ∷ unit) 0 star l) ∙ sym (ap (λ t. get_or t star 0) x.spelled) ∙ found (omega (arith, size)))))
    (λ (n : length number ≤ star). omega arith)
    (cases_lt star (length number)))
    (cases_lt (length number) star)

pub number_rest : (text number unit : List ℕ) (star : ℕ) → InUnit text number unit
    → ((k : ℕ) → k < star → slice_index text k ≡ 42 → ⊥) → (star < length text → slice_index text star ≡ 42) → drop star text ≡ 42 ∷ unit
number_rest text number unit star x before found =
    ap (drop star) x.spelled ∙ drop_at number (42 ∷ unit) star (number_length text number unit star x before found)

-- behind the first `*` stands neither unit
pub no_unit : (text : List ℕ) (star : ℕ) → ((k : ℕ) → k < star → slice_index text k ≡ 42 → ⊥) → (star < length text → slice_index text star ≡ 42)
    → (drop star text ≡ 42 ∷ codes "kWh" → ⊥) → (drop star text ≡ 42 ∷ codes "Wh" → ⊥) → HasUnit text → ⊥
no_unit text star before found kilo plain (KilowattHour, number, x) = kilo (number_rest text number (codes "kWh") star x before found)
no_unit text star before found kilo plain (WattHour, number, x) = plain (number_rest text number (codes "Wh") star x before found)

same_unit : (u v : EnergyUnit) → unit_text u ≡ unit_text v → u ≡ v
same_unit KilowattHour KilowattHour e = refl
same_unit KilowattHour WattHour e = absurd cc
same_unit WattHour KilowattHour e = absurd cc
same_unit WattHour WattHour e = refl

meant : (text number other : List ℕ) (unit u : EnergyUnit) (wh : ℕ) → InUnit text number (unit_text unit) → InUnit text other (unit_text u) → IsNumberOf u other wh → IsNumberOf unit number wh
meant text number other unit u wh x y m =
    let w : (other ≡ number) × (unit_text u ≡ unit_text unit) = one_mark 42 other number (unit_text u) (unit_text unit) y.first x.first (sym y.spelled ∙ x.spelled) in
    subst (λ (k : EnergyUnit). IsNumberOf k number wh) (same_unit u unit w.1) (subst (λ (t : List ℕ). IsNumberOf u t wh) w.0 m)

-- what a text states is what its number means in its unit
pub energy_is : (text number : List ℕ) (unit : EnergyUnit) (r : Result ℕ ValueFault) → InUnit text number (unit_text unit) → IsCounted unit number r → IsEnergy text r
energy_is text number unit (Ok wh) x y = ((unit, number, x, y.0), y.1)
energy_is text number unit (Err Digits) x y = ((unit, number, x), λ wh s. y wh (meant text number s.1 unit s.0 wh x s.2 s.3))
energy_is text number unit (Err TooLarge) x y = (y.0, (unit, number, x, y.1), y.2)
energy_is text number unit (Err UnitFault) x y = absurd y

-- ---- a text states one energy

no_point_in_digits : (ds : List ℕ) → AllDigits 10 ds → (i : ℕ) → i < length ds → slice_index ds i ≡ 46 → ⊥
no_point_in_digits ds d i l e = no_point ds i d e

no_point_inside : (digits left right : List ℕ) → AllDigits 10 digits → digits ≡ left ++ 46 ∷ right → ⊥
no_point_inside digits left right d e =
    let size : length digits ≡ length left + length (46 ∷ right) = ap length e ∙ length-append left (46 ∷ right) in
    no_point digits (length left) d (ap (λ t. get_or t (length left) 0) e ∙ get_or_at left 46 right 0 (length left) refl)

both_decimals : (number whole decimals other more : List ℕ) → Decimal number whole decimals → Decimal number other more
    → ((number ≡ whole) × (decimals ≡ [])) ⊎ ((number ≡ whole ++ 46 ∷ decimals) × (0 < length decimals))
    → ((number ≡ other) × (more ≡ [])) ⊎ ((number ≡ other ++ 46 ∷ more) × (0 < length more)) → (whole ≡ other) × (decimals ≡ more)
both_decimals number whole decimals other more x y (inl s) (inl t) = (sym s.0 ∙ t.0, s.1 ∙ sym t.1)
both_decimals number whole decimals other more x y (inl s) (inr t) = absurd (no_point_inside whole other more x.digits (sym s.0 ∙ t.0))
both_decimals number whole decimals other more x y (inr s) (inl t) = absurd (no_point_inside other whole decimals y.digits (sym t.0 ∙ s.0))
both_decimals number whole decimals other more x y (inr s) (inr t) =
    one_mark 46 whole other decimals more (no_point_in_digits whole x.digits) (no_point_in_digits other y.digits) (sym s.0 ∙ t.0)

one_decimal : (number whole decimals other more : List ℕ) → Decimal number whole decimals → Decimal number other more → (whole ≡ other) × (decimals ≡ more)
one_decimal number whole decimals other more x y = both_decimals number whole decimals other more x y x.spelled y.spelled

same_energy : (unit : EnergyUnit) (number : List ℕ) (wh other : ℕ) → IsNumberOf unit number wh → IsNumberOf unit number other → wh ≡ other
same_energy WattHour number wh other x y = x.1 ∙ sym y.1
same_energy KilowattHour number wh other x y =
    let e : (x.0 ≡ y.0) × (x.1 ≡ y.1) = one_decimal number x.0 x.1 y.0 y.1 x.2 y.2 in
    x.3 ∙ ap (λ (t : List ℕ). thousandths t x.1) e.0 ∙ ap (λ (t : List ℕ). thousandths y.0 t) e.1 ∙ sym y.3

one_energy : (text : List ℕ) (wh other : ℕ) → StatesWattHours text wh → StatesWattHours text other → wh ≡ other
one_energy text wh other x y = same_energy x.0 x.1 wh other x.3 (meant text x.1 y.1 x.0 y.0 other x.2 y.2 y.3)

has_unit : (text : List ℕ) (wh : ℕ) → StatesWattHours text wh → HasUnit text
has_unit text wh x = (x.0, x.1, x.2)

pub one_answer : (text : List ℕ) (r q : Result ℕ ValueFault) → IsEnergy text r → IsEnergy text q → r ≡ q
one_answer text (Ok wh) (Ok other) x y = ap Ok (one_energy text wh other x.0 y.0)
one_answer text (Ok wh) (Err Digits) x y = absurd (y.1 wh x.0)
one_answer text (Ok wh) (Err UnitFault) x y = absurd (y (has_unit text wh x.0))
one_answer text (Ok wh) (Err TooLarge) x y = (let e : wh ≡ y.0 = one_energy text wh y.0 x.0 y.1 in absurd (omega (arith, e, x.1, y.2)))
one_answer text (Err Digits) (Ok wh) x y = absurd (x.1 wh y.0)
one_answer text (Err Digits) (Err Digits) x y = refl
one_answer text (Err Digits) (Err UnitFault) x y = absurd (y x.0)
one_answer text (Err Digits) (Err TooLarge) x y = absurd (x.1 y.0 y.1)
one_answer text (Err UnitFault) (Ok wh) x y = absurd (x (has_unit text wh y.0))
one_answer text (Err UnitFault) (Err Digits) x y = absurd (x y.0)
one_answer text (Err UnitFault) (Err UnitFault) x y = refl
one_answer text (Err UnitFault) (Err TooLarge) x y = absurd (x (has_unit text y.0 y.1))
one_answer text (Err TooLarge) (Ok wh) x y = (let e : wh ≡ x.0 = one_energy text wh x.0 y.0 x.1 in absurd (omega (arith, e, y.1, x.2)))
one_answer text (Err TooLarge) (Err Digits) x y = absurd (y.1 x.0 x.1)
one_answer text (Err TooLarge) (Err UnitFault) x y = absurd (y (has_unit text x.0 x.1))
one_answer text (Err TooLarge) (Err TooLarge) x y = refl
