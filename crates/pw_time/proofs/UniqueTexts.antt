-- A text in its form tells one date and time.
use Rattle.std.proofs.Common.{◌≡◌, ◌+◌, ◌/◌, ◌%◌, ◌≤◌, ◌<◌, ◌⊎◌, inl, inr, ℕ, List, length, get_or, arith, ap, sym, ◌∙◌}
use Rattle.pw_time.specs.declared.civil.CivilTime.{CivilTime}
use Rattle.pw_time.specs.Texts.{run_together, separated, IsStampText, IsUtcText, AreReadoutTexts}

-- the same byte stands in the same place
at : (k : ℕ) (xs ys : List ℕ) → xs ≡ ys → get_or xs k 0 ≡ get_or ys k 0
at k xs ys e = ap (λ zs. get_or zs k 0) e

same_digits : (m n : ℕ) → 48 + m / 10 ≡ 48 + n / 10 → 48 + m % 10 ≡ 48 + n % 10 → m ≡ n
same_digits m n tens ones = omega (arith, tens, ones)

abbrev of_parts : ℕ → ℕ → ℕ → ℕ → ℕ → ℕ → CivilTime
of_parts y m d h mi s = record { year = y; month = m; day = d; hour = h; minute = mi; second = s }

pub one_civil_time : (c d : CivilTime) → c.year ≡ d.year → c.month ≡ d.month → c.day ≡ d.day
    → c.hour ≡ d.hour → c.minute ≡ d.minute → c.second ≡ d.second → c ≡ d
one_civil_time c d year month day hour minute second =
    ap (λ y. of_parts y c.month c.day c.hour c.minute c.second) year
    ∙ (ap (λ m. of_parts d.year m c.day c.hour c.minute c.second) month
    ∙ (ap (λ k. of_parts d.year d.month k c.hour c.minute c.second) day
    ∙ (ap (λ h. of_parts d.year d.month d.day h c.minute c.second) hour
    ∙ (ap (λ m. of_parts d.year d.month d.day d.hour m c.second) minute
    ∙ ap (λ s. of_parts d.year d.month d.day d.hour d.minute s) second))))

short_year : (y z : ℕ) → 2000 ≤ y → y < 2100 → 2000 ≤ z → z < 2100 → y % 100 ≡ z % 100 → y ≡ z
short_year y z a b c d e = omega arith

pub one_stamp_text : (text : List ℕ) (c d : CivilTime) (m n : ℕ) → IsStampText text c m → IsStampText text d n → (c ≡ d) × (m ≡ n)
one_stamp_text text c d m n a b =
    let e = sym a.bytes ∙ b.bytes in
    let year = same_digits (c.year % 100) (d.year % 100) (at 0 _ _ e) (at 1 _ _ e) in (
      one_civil_time c d (short_year c.year d.year a.year.0 a.year.1 b.year.0 b.year.1 year)
          (same_digits c.month d.month (at 2 _ _ e) (at 3 _ _ e)) (same_digits c.day d.day (at 4 _ _ e) (at 5 _ _ e))
          (same_digits c.hour d.hour (at 6 _ _ e) (at 7 _ _ e)) (same_digits c.minute d.minute (at 8 _ _ e) (at 9 _ _ e))
          (same_digits c.second d.second (at 10 _ _ e) (at 11 _ _ e)),
      at 12 _ _ e,
    )

pub one_utc_text : (text : List ℕ) (c d : CivilTime) → IsUtcText text c → IsUtcText text d → c ≡ d
one_utc_text text c d a b =
    let e = sym a.bytes ∙ b.bytes in
    let century = same_digits (c.year / 100) (d.year / 100) (at 0 _ _ e) (at 1 _ _ e) in
    let year = same_digits (c.year % 100) (d.year % 100) (at 2 _ _ e) (at 3 _ _ e) in
    one_civil_time c d (omega (arith, century, year))
    (same_digits c.month d.month (at 5 _ _ e) (at 6 _ _ e)) (same_digits c.day d.day (at 8 _ _ e) (at 9 _ _ e))
    (same_digits c.hour d.hour (at 11 _ _ e) (at 12 _ _ e)) (same_digits c.minute d.minute (at 14 _ _ e) (at 15 _ _ e))
    (same_digits c.second d.second (at 17 _ _ e) (at 18 _ _ e))

-- either form of three numbers tells them
one_triple : (byte : ℕ) (text : List ℕ) (a b c x y z : ℕ)
    → (text ≡ run_together a b c) ⊎ (text ≡ separated byte a b c) → (text ≡ run_together x y z) ⊎ (text ≡ separated byte x y z)
    → (a ≡ x) × (b ≡ y) × (c ≡ z)
one_triple byte text a b c x y z (inl p) (inl q) =
    let e = sym p ∙ q in
    (same_digits a x (at 0 _ _ e) (at 1 _ _ e), same_digits b y (at 2 _ _ e) (at 3 _ _ e), same_digits c z (at 4 _ _ e) (at 5 _ _ e))
one_triple byte text a b c x y z (inl p) (inr q) = absurd (omega (arith, ap length (sym p ∙ q)))
one_triple byte text a b c x y z (inr p) (inl q) = absurd (omega (arith, ap length (sym p ∙ q)))
one_triple byte text a b c x y z (inr p) (inr q) =
    let e = sym p ∙ q in
    (same_digits a x (at 0 _ _ e) (at 1 _ _ e), same_digits b y (at 3 _ _ e) (at 4 _ _ e), same_digits c z (at 6 _ _ e) (at 7 _ _ e))

pub one_readout_text : (date time : List ℕ) (c d : CivilTime) → AreReadoutTexts date time c → AreReadoutTexts date time d → c ≡ d
one_readout_text date time c d a b =
    let day = one_triple 45 date (c.year % 100) c.month c.day (d.year % 100) d.month d.day a.date_bytes b.date_bytes in
    let clock = one_triple 58 time c.hour c.minute c.second d.hour d.minute d.second a.time_bytes b.time_bytes in
    one_civil_time c d (short_year c.year d.year a.year.0 a.year.1 b.year.0 b.year.1 day.0) day.1 day.2 clock.0 clock.1 clock.2
