-- A civil time has one outcome on each clock.
use Rattle.std.proofs.Common.{◌≡◌, ◌≢◌, ◌⊎◌, inl, inr, ℕ, ℤ, pos, List, Result, Ok, Err, refl, arith, ap, sym, subst, ◌∙◌}
use Rattle.std.proofs.lemmas.Int.{ints}
use Rattle.pw_time.specs.declared.civil.CivilTime.{CivilTime}
use Rattle.pw_time.specs.declared.fault.StampFault.{StampFault}
use Rattle.pw_time.specs.declared.fault.StampFault.TheVariants.{Form, NoSuchDate, NoSuchTime, Mark, Range, Gap, Fold}
use Rattle.pw_time.specs.declared.zone.Clock.{Clock}
use Rattle.pw_time.specs.declared.zone.Clock.TheVariants.{Marked, Winter, Local}
use Rattle.pw_time.specs.Texts.{IsStampText, IsUtcText, AreReadoutTexts}
use Rattle.pw_time.specs.Outcomes.{always, Shows, ShowsOnce, IsCivilOutcome, IsSeasonMark, IsStampOutcome, IsUtcOutcome, IsReadoutClock, IsReadoutOutcome}
use Rattle.pw_time.proofs.UniqueTexts.{one_stamp_text, one_utc_text, one_readout_text}

one_not_two : (ahead : ℤ → ℕ) (c : CivilTime) (t : ℤ) → ShowsOnce ahead c t
    → ((first : ℤ) × (later : ℤ) × Shows ahead c first × Shows ahead c later × (first ≢ later)) → ⊥
one_not_two ahead c t once two = two.4 (once.1 two.0 two.2 ∙ sym (once.1 two.1 two.3))

pub one_civil_outcome : (ahead : ℤ → ℕ) (c : CivilTime) (a b : Result ℕ StampFault) → IsCivilOutcome ahead c a → IsCivilOutcome ahead c b → a ≡ b
one_civil_outcome ahead c (Ok t) (Ok u) a b = ap Ok (omega (arith, ints, b.1.1 (pos t) a.1.0))
one_civil_outcome ahead c (Ok t) (Err NoSuchDate) a b = absurd (b a.0.0)
one_civil_outcome ahead c (Ok t) (Err NoSuchTime) a b = absurd (b.1 a.0.1)
one_civil_outcome ahead c (Ok t) (Err Gap) a b = absurd (b.1 (pos t) a.1.0)
one_civil_outcome ahead c (Ok t) (Err Fold) a b = absurd (one_not_two ahead c (pos t) a.1 b.1)
one_civil_outcome ahead c (Ok t) (Err Range) a b = absurd (b.1.2 t a.2 (b.1.1.1 (pos t) a.1.0))
one_civil_outcome ahead c (Ok t) (Err Form) a b = absurd b
one_civil_outcome ahead c (Ok t) (Err Mark) a b = absurd b
one_civil_outcome ahead c (Err NoSuchDate) (Ok u) a b = absurd (a b.0.0)
one_civil_outcome ahead c (Err NoSuchDate) (Err NoSuchDate) a b = refl
one_civil_outcome ahead c (Err NoSuchDate) (Err NoSuchTime) a b = absurd (a b.0)
one_civil_outcome ahead c (Err NoSuchDate) (Err Gap) a b = absurd (a b.0.0)
one_civil_outcome ahead c (Err NoSuchDate) (Err Fold) a b = absurd (a b.0.0)
one_civil_outcome ahead c (Err NoSuchDate) (Err Range) a b = absurd (a b.0.0)
one_civil_outcome ahead c (Err NoSuchDate) (Err Form) a b = absurd b
one_civil_outcome ahead c (Err NoSuchDate) (Err Mark) a b = absurd b
one_civil_outcome ahead c (Err NoSuchTime) (Ok u) a b = absurd (a.1 b.0.1)
one_civil_outcome ahead c (Err NoSuchTime) (Err NoSuchDate) a b = absurd (b a.0)
one_civil_outcome ahead c (Err NoSuchTime) (Err NoSuchTime) a b = refl
one_civil_outcome ahead c (Err NoSuchTime) (Err Gap) a b = absurd (a.1 b.0.1)
one_civil_outcome ahead c (Err NoSuchTime) (Err Fold) a b = absurd (a.1 b.0.1)
one_civil_outcome ahead c (Err NoSuchTime) (Err Range) a b = absurd (a.1 b.0.1)
one_civil_outcome ahead c (Err NoSuchTime) (Err Form) a b = absurd b
one_civil_outcome ahead c (Err NoSuchTime) (Err Mark) a b = absurd b
one_civil_outcome ahead c (Err Gap) (Ok u) a b = absurd (a.1 (pos u) b.1.0)
one_civil_outcome ahead c (Err Gap) (Err NoSuchDate) a b = absurd (b a.0.0)
one_civil_outcome ahead c (Err Gap) (Err NoSuchTime) a b = absurd (b.1 a.0.1)
one_civil_outcome ahead c (Err Gap) (Err Gap) a b = refl
one_civil_outcome ahead c (Err Gap) (Err Fold) a b = absurd (a.1 b.1.0 b.1.2)
one_civil_outcome ahead c (Err Gap) (Err Range) a b = absurd (a.1 b.1.0 b.1.1.0)
one_civil_outcome ahead c (Err Gap) (Err Form) a b = absurd b
one_civil_outcome ahead c (Err Gap) (Err Mark) a b = absurd b
one_civil_outcome ahead c (Err Fold) (Ok u) a b = absurd (one_not_two ahead c (pos u) b.1 a.1)
one_civil_outcome ahead c (Err Fold) (Err NoSuchDate) a b = absurd (b a.0.0)
one_civil_outcome ahead c (Err Fold) (Err NoSuchTime) a b = absurd (b.1 a.0.1)
one_civil_outcome ahead c (Err Fold) (Err Gap) a b = absurd (b.1 a.1.0 a.1.2)
one_civil_outcome ahead c (Err Fold) (Err Fold) a b = refl
one_civil_outcome ahead c (Err Fold) (Err Range) a b = absurd (one_not_two ahead c b.1.0 b.1.1 a.1)
one_civil_outcome ahead c (Err Fold) (Err Form) a b = absurd b
one_civil_outcome ahead c (Err Fold) (Err Mark) a b = absurd b
one_civil_outcome ahead c (Err Range) (Ok u) a b = absurd (a.1.2 u b.2 (a.1.1.1 (pos u) b.1.0))
one_civil_outcome ahead c (Err Range) (Err NoSuchDate) a b = absurd (b a.0.0)
one_civil_outcome ahead c (Err Range) (Err NoSuchTime) a b = absurd (b.1 a.0.1)
one_civil_outcome ahead c (Err Range) (Err Gap) a b = absurd (b.1 a.1.0 a.1.1.0)
one_civil_outcome ahead c (Err Range) (Err Fold) a b = absurd (one_not_two ahead c a.1.0 a.1.1 b.1)
one_civil_outcome ahead c (Err Range) (Err Range) a b = refl
one_civil_outcome ahead c (Err Range) (Err Form) a b = absurd b
one_civil_outcome ahead c (Err Range) (Err Mark) a b = absurd b
one_civil_outcome ahead c (Err Form) r a b = absurd a
one_civil_outcome ahead c (Err Mark) r a b = absurd a

-- what a stamp's outcome says of it, whichever it is
stamp_cases : (text : List ℕ) (r : Result ℕ StampFault) → IsStampOutcome text r
    → ((r ≡ Err Form) × ((c : CivilTime) (mark : ℕ) → ¬ (IsStampText text c mark)))
    ⊎ ((c : CivilTime) × (mark : ℕ) × IsStampText text c mark
    × (((r ≡ Err Mark) × ((ahead : ℕ) → ¬ (IsSeasonMark mark ahead)))
    ⊎ ((ahead : ℕ) × IsSeasonMark mark ahead × IsCivilOutcome (always ahead) c r)))
stamp_cases text (Err Form) out = inl (refl, out)
stamp_cases text (Err Mark) out = inr (out.0, out.1, out.2, inl (refl, out.3))
stamp_cases text (Err NoSuchDate) out = inr (out.0, out.1, out.3, inr (out.2, out.4, out.5))
stamp_cases text (Err NoSuchTime) out = inr (out.0, out.1, out.3, inr (out.2, out.4, out.5))
stamp_cases text (Err Range) out = inr (out.0, out.1, out.3, inr (out.2, out.4, out.5))
stamp_cases text (Err Gap) out = inr (out.0, out.1, out.3, inr (out.2, out.4, out.5))
stamp_cases text (Err Fold) out = inr (out.0, out.1, out.3, inr (out.2, out.4, out.5))
stamp_cases text (Ok t) out = inr (out.0, out.1, out.3, inr (out.2, out.4, out.5))

one_season : (m n a b : ℕ) → m ≡ n → IsSeasonMark m a → IsSeasonMark n b → a ≡ b
one_season m n a b e (inl p) (inl q) = p.1 ∙ sym q.1
one_season m n a b e (inl p) (inr q) = absurd (omega (arith, p, q, e))
one_season m n a b e (inr p) (inl q) = absurd (omega (arith, p, q, e))
one_season m n a b e (inr p) (inr q) = p.1 ∙ sym q.1

-- the same clock and the same civil time
same_civil_outcome : (a b : ℤ → ℕ) (c d : CivilTime) (r s : Result ℕ StampFault) → a ≡ b → c ≡ d
    → IsCivilOutcome a c r → IsCivilOutcome b d s → r ≡ s
same_civil_outcome a b c d r s clock civil p q =
    let P : (ℤ → ℕ) → Type 0 = λ x. IsCivilOutcome x d s in
    let Q : CivilTime → Type 0 = λ x. IsCivilOutcome a x s in
    one_civil_outcome a c r s p (subst Q (sym civil) (subst P (sym clock) q))

pub one_stamp_outcome : (text : List ℕ) (r s : Result ℕ StampFault) → IsStampOutcome text r → IsStampOutcome text s → r ≡ s
one_stamp_outcome text r s p q =
    elim (stamp_cases text r p) [
      | inl a ↦ elim (stamp_cases text s q) [
        | inl b ↦ a.0 ∙ sym b.0
        | inr b ↦ absurd (a.1 b.0 b.1 b.2)
      ]
      | inr a ↦ elim (stamp_cases text s q) [
        | inl b ↦ absurd (b.1 a.0 a.1 a.2)
        | inr b ↦
            let same = one_stamp_text text a.0 b.0 a.1 b.1 a.2 b.2 in
            elim a.3 [
              | inl x ↦ elim b.3 [
                | inl y ↦ x.0 ∙ sym y.0
                | inr y ↦
                    let P : ℕ → Type 0 = λ mark. IsSeasonMark mark y.0 in
                    absurd (x.1 y.0 (subst P (sym same.1) y.1))
              ]
              | inr x ↦ elim b.3 [
                | inl y ↦
                    let P : ℕ → Type 0 = λ mark. IsSeasonMark mark x.0 in
                    absurd (y.1 x.0 (subst P same.1 x.1))
                | inr y ↦
                    same_civil_outcome (always x.0) (always y.0) a.0 b.0 r s (ap always (one_season a.1 b.1 x.0 y.0 same.1 x.1 y.1)) same.0 x.2 y.2
              ]
            ]
      ]
    ]

-- the same for a text in UTC
utc_cases : (text : List ℕ) (r : Result ℕ StampFault) → IsUtcOutcome text r
    → ((r ≡ Err Form) × ((c : CivilTime) → ¬ (IsUtcText text c)))
    ⊎ ((c : CivilTime) × IsUtcText text c × IsCivilOutcome (always 0) c r)
utc_cases text (Err Form) out = inl (refl, out)
utc_cases text (Err Mark) out = inr out
utc_cases text (Err NoSuchDate) out = inr out
utc_cases text (Err NoSuchTime) out = inr out
utc_cases text (Err Range) out = inr out
utc_cases text (Err Gap) out = inr out
utc_cases text (Err Fold) out = inr out
utc_cases text (Ok t) out = inr out

pub one_utc_outcome : (text : List ℕ) (r s : Result ℕ StampFault) → IsUtcOutcome text r → IsUtcOutcome text s → r ≡ s
one_utc_outcome text r s p q =
    elim (utc_cases text r p) [
      | inl a ↦ elim (utc_cases text s q) [
        | inl b ↦ a.0 ∙ sym b.0
        | inr b ↦ absurd (a.1 b.0 b.1)
      ]
      | inr a ↦ elim (utc_cases text s q) [
        | inl b ↦ absurd (b.1 a.0 a.1)
        | inr b ↦ same_civil_outcome (always 0) (always 0) a.0 b.0 r s refl (one_utc_text text a.0 b.0 a.1 b.1) a.2 b.2
      ]
    ]

-- and for a readout
readout_cases : (date time : List ℕ) (clock : Clock) (r : Result ℕ StampFault) → IsReadoutOutcome date time clock r
    → ((r ≡ Err Form) × ((c : CivilTime) → ¬ (AreReadoutTexts date time c)))
    ⊎ ((c : CivilTime) × AreReadoutTexts date time c
    × (((r ≡ Err Mark) × (clock ≡ Marked))
    ⊎ ((ahead : ℤ → ℕ) × IsReadoutClock clock ahead × IsCivilOutcome ahead c r)))
readout_cases date time clock (Err Form) out = inl (refl, out)
readout_cases date time clock (Err Mark) out = inr (out.0.0, out.0.1, inl (refl, out.1))
readout_cases date time clock (Err NoSuchDate) out = inr (out.0, out.2, inr (out.1, out.3, out.4))
readout_cases date time clock (Err NoSuchTime) out = inr (out.0, out.2, inr (out.1, out.3, out.4))
readout_cases date time clock (Err Range) out = inr (out.0, out.2, inr (out.1, out.3, out.4))
readout_cases date time clock (Err Gap) out = inr (out.0, out.2, inr (out.1, out.3, out.4))
readout_cases date time clock (Err Fold) out = inr (out.0, out.2, inr (out.1, out.3, out.4))
readout_cases date time clock (Ok t) out = inr (out.0, out.2, inr (out.1, out.3, out.4))

one_clock : (clock : Clock) (a b : ℤ → ℕ) → IsReadoutClock clock a → IsReadoutClock clock b → a ≡ b
one_clock Marked a b p q = absurd p
one_clock Winter a b p q = p ∙ sym q
one_clock Local a b p q = p ∙ sym q

not_marked : (clock : Clock) (ahead : ℤ → ℕ) → clock ≡ Marked → IsReadoutClock clock ahead → ⊥
not_marked clock ahead e p =
    let P : Clock → Type 0 = λ c. IsReadoutClock c ahead in subst P e p

pub one_readout_outcome : (date time : List ℕ) (clock : Clock) (r s : Result ℕ StampFault)
    → IsReadoutOutcome date time clock r → IsReadoutOutcome date time clock s → r ≡ s
one_readout_outcome date time clock r s p q =
    elim (readout_cases date time clock r p) [
      | inl a ↦ elim (readout_cases date time clock s q) [
        | inl b ↦ a.0 ∙ sym b.0
        | inr b ↦ absurd (a.1 b.0 b.1)
      ]
      | inr a ↦ elim (readout_cases date time clock s q) [
        | inl b ↦ absurd (b.1 a.0 a.1)
        | inr b ↦
            let same = one_readout_text date time a.0 b.0 a.1 b.1 in
            elim a.2 [
              | inl x ↦ elim b.2 [
                | inl y ↦ x.0 ∙ sym y.0
                | inr y ↦ absurd (not_marked clock y.0 x.1 y.1)
              ]
              | inr x ↦ elim b.2 [
                | inl y ↦ absurd (not_marked clock x.0 y.1 x.1)
                | inr y ↦ same_civil_outcome x.0 y.0 a.0 b.0 r s (one_clock clock x.0 y.0 x.1 y.1) same x.2 y.2
              ]
            ]
      ]
    ]
