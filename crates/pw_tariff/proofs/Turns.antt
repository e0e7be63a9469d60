-- The checks of one period after another.
use Rattle.std.proofs.Common.{◌≡◌, ℕ, ◌+◌, ◌<◌, ◌≤◌, List, [], ◌++◌, length, map, drop, get_or, refl, sym, ◌∙◌, ap}
use Rattle.std.proofs.Math.ListN.{drop_of_length-le}
use Rattle.toml.specs.Data.{Members}
use Rattle.pw_tariff.specs.declared.fault.OfficeFault.{OfficeFault}
use Rattle.pw_tariff.specs.Office.{BandText}
use Rattle.pw_tariff.specs.Checks.{Check, first_refusal}
use Rattle.pw_tariff.specs.inner.Checks.{IsRefusal, Passes}
use Rattle.pw_tariff.specs.Text.{period_checks, period_of_table, periods_in_turn}
use Rattle.pw_tariff.proofs.Order.{drop-step, first-passes, refusal-same, refusal-front}

-- the checks of all periods come to those from place i on, behind a start
abbrev pub ComesTo : {X : Type 0} → List Check → List BandText → (X → Members) → ℕ → List X → ℕ → Type 0
ComesTo all bands g before xs i = first_refusal all ≡ first_refusal (periods_in_turn bands before (map g (drop i xs)))

-- those from the next place on
abbrev rest : {X : Type 0} → List BandText → (X → Members) → List X → ℕ → X → List Check
rest bands g xs i x = periods_in_turn bands (period_of_table (g x)).start (map g (drop (i + 1) xs))

step : {X : Type 0} (bands : List BandText) (g : X → Members) (before : ℕ) (xs : List X) (i : ℕ) (x : X) → i < length xs → x ≡ get_or xs i x →
    first_refusal (periods_in_turn bands before (map g (drop i xs))) ≡ first_refusal (period_checks bands before (g x) ++ rest bands g xs i x)
unfolding periods_in_turn
step bands g before xs i x l e = rw (drop-step xs i x l e) refl

pub refused : {X : Type 0} (all : List Check) (bands : List BandText) (g : X → Members) (before : ℕ) (xs : List X) (i : ℕ) (x : X) (e : OfficeFault) →
    i < length xs → x ≡ get_or xs i x → ComesTo all bands g before xs i → IsRefusal (period_checks bands before (g x)) e → IsRefusal all e
refused all bands g before xs i x e l s h r =
    refusal-same all (period_checks bands before (g x) ++ rest bands g xs i x) e (h ∙ step bands g before xs i x l s)
    (refusal-front (period_checks bands before (g x)) (rest bands g xs i x) e r)

pub passed : {X : Type 0} (all : List Check) (bands : List BandText) (g : X → Members) (before next : ℕ) (xs : List X) (i : ℕ) (x : X) →
    i < length xs → x ≡ get_or xs i x → next ≡ (period_of_table (g x)).start → ComesTo all bands g before xs i → Passes (period_checks bands before (g x)) →
    ComesTo all bands g next xs (i + 1)
passed all bands g before next xs i x l s n h p =
    h ∙ step bands g before xs i x l s ∙ first-passes (period_checks bands before (g x)) (rest bands g xs i x) p
    ∙ ap (λ m. first_refusal (periods_in_turn bands m (map g (drop (i + 1) xs)))) (sym n)

pub ended : {X : Type 0} (all : List Check) (bands : List BandText) (g : X → Members) (before : ℕ) (xs : List X) (i : ℕ) → length xs ≤ i → ComesTo all bands g before xs i → Passes all
unfolding periods_in_turn
ended all bands g before xs i l h = let n : drop i xs ≡ [] = drop_of_length-le xs l in h ∙ rw n refl
