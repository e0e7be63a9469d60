-- A text in UTC tells one instant, or why it tells none.
use Rattle.std.proofs.Common.{◌≡◌, ◌≢◌, ℕ, ◌+◌, ◌-◌, ◌*◌, ◌/◌, ◌%◌, ◌<◌, ◌⊎◌, inl, inr, ℤ, pos, negsuc, ◌+ℤ◌, ◌≤ℤ◌, neg_ℤ, List, [], ◌∷◌, ◌++◌, get_or, Ok, Err, refl, sym, ap, subst, ◌∙◌, arith}
use Rattle.std.proofs.lemmas.Int.{ints}
use Rattle.pw_time.specs.declared.civil.CivilTime.{CivilTime}
use Rattle.pw_time.specs.declared.fault.StampFault.{StampFault}
use Rattle.pw_time.specs.declared.fault.StampFault.TheVariants.{Form, NoSuchDate, NoSuchTime, Range}
use Rattle.pw_time.specs.declared.instant.TheConstants.{FIRST_SECOND, LAST_SECOND}
use Rattle.pw_time.specs.Civil.{HasDate, HasTime, civil_second}
use Rattle.pw_time.specs.Instants.{IsInstant}
use Rattle.pw_time.specs.Texts.{two_digits, separated, HasDigits, IsUtcText}
use Rattle.pw_time.specs.Outcomes.{always, Exists, ShowsOnce, IsUtcOutcome}
use Rattle.pw_time.proofs.UniqueTexts.{one_civil_time}
use Rattle.pw_time.proofs.Deciding.{both, three, known-by, below-known, most-known, whole-known, text-known}

-- ---- the date and time that a text could tell
digit : List ℕ → ℕ → ℕ
digit text i = get_or text i 0 - 48

pair : List ℕ → ℕ → ℕ
pair text i = 10 * digit text i + digit text (i + 1)

told-by : List ℕ → CivilTime
told-by text = record {
  year = 100 * pair text 0 + pair text 2;
  month = pair text 5;
  day = pair text 8;
  hour = pair text 11;
  minute = pair text 14;
  second = pair text 17;
}

written : CivilTime → List ℕ
written c = two_digits (c.year / 100) ++ separated 45 (c.year % 100) c.month c.day ++ (84 ∷ separated 58 c.hour c.minute c.second) ++ (90 ∷ [])

-- the same byte stands in the same place
at : (k : ℕ) (xs ys : List ℕ) → xs ≡ ys → get_or xs k 0 ≡ get_or ys k 0
at k xs ys e = ap (λ zs. get_or zs k 0) e

pair-is : (a b n : ℕ) → a ≡ 48 + n / 10 → b ≡ 48 + n % 10 → 10 * (a - 48) + (b - 48) ≡ n
pair-is a b n e f = omega (arith, e, f)

year-is : (a b y : ℕ) → a ≡ y / 100 → b ≡ y % 100 → 100 * a + b ≡ y
year-is a b y e f = omega (arith, e, f)

told-is : (text : List ℕ) (c : CivilTime) → IsUtcText text c → told-by text ≡ c
unfolding told-by pair digit
told-is text c x =
    let e = x.bytes in
    one_civil_time (told-by text) c
    (year-is _ _ c.year (pair-is _ _ (c.year / 100) (at 0 _ _ e) (at 1 _ _ e)) (pair-is _ _ (c.year % 100) (at 2 _ _ e) (at 3 _ _ e)))
    (pair-is _ _ c.month (at 5 _ _ e) (at 6 _ _ e)) (pair-is _ _ c.day (at 8 _ _ e) (at 9 _ _ e))
    (pair-is _ _ c.hour (at 11 _ _ e) (at 12 _ _ e)) (pair-is _ _ c.minute (at 14 _ _ e) (at 15 _ _ e))
    (pair-is _ _ c.second (at 17 _ _ e) (at 18 _ _ e))

digits-known : (c : CivilTime) → HasDigits c ⊎ (HasDigits c → ⊥)
digits-known c =
    known-by
    (λ (h : ((c.year < 10_000) × (c.month < 100) × (c.day < 100)) × ((c.hour < 100) × (c.minute < 100) × (c.second < 100))).
    record { year = h.0.0; month = h.0.1; day = h.0.2; hour = h.1.0; minute = h.1.1; second = h.1.2 })
    (λ (h : HasDigits c). ((h.year, h.month, h.day), (h.hour, h.minute, h.second)))
    (both (three (below-known c.year 10_000) (below-known c.month 100) (below-known c.day 100)) (three (below-known c.hour 100) (below-known c.minute 100) (below-known c.second 100)))

utc-text-known : (text : List ℕ) → IsUtcText text (told-by text) ⊎ ((c : CivilTime) → IsUtcText text c → ⊥)
unfolding written
utc-text-known text =
    elim (both (digits-known (told-by text)) (text-known text (written (told-by text)))) [
      | inl h ↦ inl (record { parts = h.0; bytes = h.1 })
      | inr n ↦ inr (λ c x. (let y : IsUtcText text (told-by text) = subst (IsUtcText text) (sym (told-is text c x)) x in n (y.parts, y.bytes)))
    ]

-- ---- whether it is a date and a time of day
year-there : (y : ℕ) → y < 10_000 → (pos y ≤ℤ pos 9999) × (neg_ℤ (pos 9999) ≤ℤ pos y)
year-there y l = (omega (arith, ints, l), omega (arith, ints, l))

date-known : (c : CivilTime) → c.year < 10_000 → HasDate c ⊎ (HasDate c → ⊥)
date-known c l = three (inl ((year-there c.year l).1, (year-there c.year l).0)) (both (whole-known 1 c.month) (whole-known c.month 12)) (both (whole-known 1 c.day) (whole-known c.day _))

time-known : (c : CivilTime) → HasTime c ⊎ (HasTime c → ⊥)
time-known c = three (below-known c.hour 24) (below-known c.minute 60) (below-known c.second 60)

-- ---- its second
plus-nothing : (t : ℤ) → t +ℤ pos 0 ≡ t
plus-nothing t = omega (arith, ints)

once : (c : CivilTime) (t : ℤ) → t ≡ civil_second c → ShowsOnce (always 0) c t
once c t e = (plus-nothing t ∙ e, λ other o. sym (plus-nothing other) ∙ o ∙ sym e)

same-pos : (m n : ℕ) → pos m ≡ pos n → m ≡ n
same-pos m n e = omega (arith, ints, e)

instant-known : (z : ℤ) → ((t : ℕ) × (pos t ≡ z) × IsInstant t) ⊎ ((t : ℕ) → IsInstant t → pos t ≢ z)
instant-known (pos n) =
    elim (both (most-known FIRST_SECOND n) (most-known n LAST_SECOND)) [
      | inl h ↦ inl (n, refl, h)
      | inr m ↦ inr (λ t i e. m (subst IsInstant (same-pos t n e) i))
    ]
instant-known (negsuc n) = inr (λ t i e. omega (arith, ints, e))

-- ---- what it tells
abbrev pub TellsUtc : List ℕ → Type 0
TellsUtc text = ((t : ℕ) × IsUtcOutcome text (Ok t)) ⊎ ((fault : StampFault) × IsUtcOutcome text (Err fault))

of-second : (text : List ℕ) (c : CivilTime) → IsUtcText text c → Exists c → TellsUtc text
of-second text c x there =
    elim (instant-known (civil_second c)) [
      | inl i ↦ inl (i.0, (c, x, (there, once c (pos i.0) i.1, i.2)))
      | inr n ↦ inr (Range, (c, x, (there, (civil_second c, once c (civil_second c) refl, n))))
    ]

of-civil : (text : List ℕ) (c : CivilTime) → IsUtcText text c → TellsUtc text
of-civil text c x =
    elim (date-known c x.parts.year) [
      | inr n ↦ inr (NoSuchDate, (c, x, n))
      | inl d ↦ elim (time-known c) [
        | inr n ↦ inr (NoSuchTime, (c, x, (d, n)))
        | inl m ↦ of-second text c x (d, m)
      ]
    ]

pub utc-there_is : (text : List ℕ) → TellsUtc text
utc-there_is text =
    elim (utc-text-known text) [
      | inl x ↦ of-civil text (told-by text) x
      | inr n ↦ inr (Form, n)
    ]
