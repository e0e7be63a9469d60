-- The test on keys of totals decides whether two are equal.
use Rattle.std.proofs.Common.{◌≡◌, ℕ, ◌+◌, Some, None, true, false, refl, ap, sym, ◌∙◌, Decides, arith, inl, inr}
use Rattle.std.specs.Cmp.Lexicographic.{bytes_decides, texts_ties}
use Rattle.std.specs.Ordering.{is_eq}
use Rattle.std.proofs.lemmas.Bool.{cases_Bool}
use Rattle.std.proofs.lemmas.Bool.Decides.{Decides-like}
use Rattle.pw_tariff.specs.declared.ids.AccountId.{AccountId}
use Rattle.pw_tariff.specs.declared.ids.BandId.{BandId}
use Rattle.pw_tariff.specs.declared.ids.PeriodId.{PeriodId}
use Rattle.pw_tariff.specs.declared.ids.Direction.{Direction}
use Rattle.pw_tariff.specs.declared.ids.Direction.TheVariants.{Import, Export}
use Rattle.pw_model.specs.declared.records.TotalKey.{TotalKey}
use Rattle.pw_model.specs.declared.records.TotalKey.TheVariants.{Energy, TopUps}
use Rattle.pw_model.specs.Same.{total_numbers, direction_place, same_direction, same_total}
use Rattle.pw_model.proofs.InKeyOrder.{totals-ordered}
use Rattle.pw_model.specs.contracts.records.TotalKeyOrd.TheImpl as derived_total

abbrev account : ℕ → AccountId
account n = record { 0 = n }

abbrev period : ℕ → PeriodId
period n = record { 0 = n }

abbrev band : ℕ → BandId
band n = record { 0 = n }

direction-one : (d e : Direction) → direction_place d ≡ direction_place e → d ≡ e
direction-one Import Import h = refl
direction-one Export Export h = refl
direction-one Import Export h = absurd (omega (arith, h))
direction-one Export Import h = absurd (omega (arith, h))

pub same-direction : (d : Direction) → same_direction d d ≡ true
same-direction Import = refl
same-direction Export = refl

total-numbers-one : (k l : TotalKey) → total_numbers k ≡ total_numbers l → k ≡ l
unfolding total_numbers
total-numbers-one (Energy None p b d) (Energy None q c e) h =
    let i : p ≡ q = ap period (cc) in
    let j : b ≡ c = ap band (cc) in
    let k : d ≡ e = direction-one d e (cc) in
    cc
total-numbers-one (Energy (Some x) p b d) (Energy (Some y) q c e) h =
    let n : x.0 + 1 ≡ y.0 + 1 = cc in
    let m : x.0 ≡ y.0 = omega (arith, n) in
    let l : x ≡ y = ap account m in
    let i : p ≡ q = ap period (cc) in
    let j : b ≡ c = ap band (cc) in
    let k : d ≡ e = direction-one d e (cc) in
    cc
total-numbers-one (Energy None p b d) (Energy (Some y) q c e) h = let n : 0 ≡ y.0 + 1 = cc in absurd (omega (arith, n))
total-numbers-one (Energy (Some x) p b d) (Energy None q c e) h = let n : x.0 + 1 ≡ 0 = cc in absurd (omega (arith, n))
total-numbers-one (TopUps x) (TopUps y) h = let p : x ≡ y = ap account (cc) in cc
total-numbers-one (Energy o p b d) (TopUps y) h = cc
total-numbers-one (TopUps x) (Energy o p b d) h = cc

pub same_total-decides : (k l : TotalKey) → Decides (same_total k l) (k ≡ l)
same_total-decides k l = Decides-like (same_total k l) (total-numbers-one k l) (λ e. ap total_numbers e) (bytes_decides (total_numbers k) (total_numbers l))

pub total-apart : (k l : TotalKey) → (k ≡ l → ⊥) → same_total k l ≡ false
total-apart k l n = elim (cases_Bool (same_total k l)) [ inl y ↦ absurd (n ((same_total-decides k l).0 y)) | inr f ↦ f ]

pub total-itself : (k : TotalKey) → same_total k k ≡ true
total-itself k = (same_total-decides k k).1 refl

-- and so does the order of the program's maps
pub total-tested : (k l : TotalKey) → is_eq (derived_total.ghosts.cmp k l) ≡ same_total k l
total-tested k l = ap is_eq (totals-ordered k l) ∙ sym (texts_ties (total_numbers k) (total_numbers l))
