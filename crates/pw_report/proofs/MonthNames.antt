-- The text of a month, and the month of a text.
use Rattle.std.proofs.Common.{◌≡◌, ◌∙◌, ◌+◌, ◌/◌, ◌%◌, ◌<◌, ◌≤◌, ◌⊎◌, ℕ, List, ap, arith, get_or, inl, inr, refl, sym}
use Rattle.pw_report.specs.declared.months.Month.{Month}
use Rattle.pw_report.specs.Months.{IsMonthText, IsThere, month_text}
use Rattle.pw_report.specs.inner.Digits.{of_century}

-- the year of a month that is there begins with 20
text_of : (m : Month) → IsThere m → month_text m ≡ of_century (m.year % 100) m.month
text_of m h =
    let century : m.year / 100 ≡ 20 = omega (arith, h.0) in
    rw century refl

pub named : (text : List ℕ) (short month : ℕ) → short < 100 → text ≡ of_century short month → 1 ≤ month → month ≤ 12 →
    IsMonthText text (record { year = 2000 + short; month = month })
named text short month few is low high =
    let there : IsThere (record { year = 2000 + short; month = month }) = ((omega arith, omega (arith, few)), low, high) in
    let last : (2000 + short) % 100 ≡ short = omega (arith, few) in
    record { there = there; bytes = is ∙ sym (text_of (record { year = 2000 + short; month = month }) there ∙ ap (λ (n : ℕ). of_century n month) last) }

-- the numbers of such a text are the month's
short-of : (m : Month) → IsThere m → (m.year % 100 < 100) × (m.month < 100)
short-of m h = (omega arith, omega (arith, h.2))

pub not-named : (text : List ℕ) → ((a b : ℕ) → a < 100 → b < 100 → text ≡ of_century a b → ⊥) → (m : Month) → IsMonthText text m → ⊥
not-named text h m is = let few = short-of m is.there in h (m.year % 100) m.month few.0 few.1 (is.bytes ∙ text_of m is.there)

pub no-month : (text : List ℕ) (short month : ℕ) → month < 100 → text ≡ of_century short month → (month < 1) ⊎ (12 < month) → (m : Month) → IsMonthText text m → ⊥
no-month text short month few is out m h =
    let same : of_century short month ≡ of_century (m.year % 100) m.month = sym is ∙ (h.bytes ∙ text_of m h.there) in
    let tens = ap (λ (xs : List ℕ). get_or xs 5 0) same in
    let ones = ap (λ (xs : List ℕ). get_or xs 6 0) same in
    let within = h.there in
    elim out [
      | inl l ↦ omega (arith, tens, ones, l, few, within.1, within.2)
      | inr l ↦ omega (arith, tens, ones, l, few, within.1, within.2)
    ]
