-- The next counting reading of a register, in records in order.
use Rattle.std.proofs.Common.{◌≡◌, ℕ, ◌+◌, ◌<◌, ◌≤◌, Some, None, List, length, refl, ap, sym, subst, ◌∙◌, inl, inr, arith}
use Rattle.std.proofs.lemmas.Bool.{cases_lt}
use Rattle.std.proofs.lemmas.Cmp.{nat_cmp_total, tied_itself}
use Rattle.std.specs.Ordering.{nat_cmp, ordering_then}
use Rattle.std.specs.declared.cmp.Ordering.{Ordering}
use Rattle.std.specs.declared.cmp.Ordering.TheVariants.{Less, Equal, Greater}
use Rattle.pw_obis.specs.declared.reference.Register.{Register}
use Rattle.pw_tariff.specs.Office.{register_place}
use Rattle.pw_model.specs.declared.records.Key.{Key}
use Rattle.pw_model.specs.declared.records.Key.TheVariants as key
use Rattle.pw_model.specs.declared.records.Content.TheVariants as content
use Rattle.pw_model.specs.declared.records.Entry.{Entry}
use Rattle.pw_model.specs.Same.{key_numbers, key_order, entry_order}
use Rattle.pw_model.specs.Counting.{Member, Counts, contents_at, wh_of, point, reading_key}
use Rattle.pw_model.specs.Lists.{IsInOrder, reading_entry}
use Rattle.pw_model.specs.inner.Search.{AllStand, IsAt, NoPoint, IsEarliestAmong}
use Rattle.pw_flow.proofs.Points.{option-cases}
use Rattle.pw_model.proofs.Same.{register-one}
use Rattle.pw_model.proofs.Counting.{all-stand, counts-one, one-is_counting}
use Rattle.pw_model.proofs.Found.{second_of, wh-back}
use Rattle.pw_model.proofs.InKeyOrder.{cmp-less, cmp-greater}
use Rattle.pw_model.proofs.Places.{KeyUpTo, up-to-one, at-member, member-at, at-one, at-there, at-up_to, entry-apart}

-- ---- the order of the readings of a register
reading-first : (m : ℕ) (r : Register) (x t : ℕ) → x < t → key_order (reading_key m r x) (reading_key m r t) ≡ Less
unfolding key_numbers
reading-first m r x t l = rw (tied_itself nat_cmp_total m, tied_itself nat_cmp_total (register_place r), cmp-less x t l) refl

pub reading-up_to : (m : ℕ) (r : Register) (x t : ℕ) → KeyUpTo (reading_key m r x) (reading_key m r t) → x ≤ t
reading-up_to m r x t h =
    elim (cases_lt t x) [
      | inl l ↦ (
          let q : reading_key m r x ≡ reading_key m r t = up-to-one (reading_key m r x) (reading_key m r t) h (inl (reading-first m r t x l)) in
          let e : x ≡ t = ap second_of q in
          omega (arith, e))
      | inr l ↦ l
    ]

squeeze : (a b : ℕ) (o p : Ordering) → ordering_then (nat_cmp a b) o ≡ Less → ordering_then (nat_cmp b a) p ≡ Less → (a ≡ b) × (o ≡ Less) × (p ≡ Less)
squeeze a b o p h i =
    elim (cases_lt a b) [
      | inl l ↦ absurd (let n = rw (cmp-greater b a l) at i in let m : Greater ≡ Less = n in cc)
      | inr k ↦ elim (cases_lt b a) [
        | inl l ↦ absurd (let n = rw (cmp-greater a b l) at h in let m : Greater ≡ Less = n in cc)
        | inr l ↦ (
            let e : a ≡ b = omega arith in
            let P : ℕ → Type 0 = λ v. ordering_then (nat_cmp a v) o ≡ Less in
            let Q : ℕ → Type 0 = λ v. ordering_then (nat_cmp v a) p ≡ Less in
            (e, rw (tied_itself nat_cmp_total a) at (subst P (sym e) h), rw (tied_itself nat_cmp_total a) at (subst Q (sym e) i)))
      ]
    ]

-- a key between two readings of a register is a reading of it
less-between : (m : ℕ) (r : Register) (x t : ℕ) (k : Key) → key_order (reading_key m r x) k ≡ Less → key_order k (reading_key m r t) ≡ Less → (s : ℕ) × (k ≡ reading_key m r s)
unfolding key_numbers
less-between m r x t (key.Assignment n u) h i = absurd (let c : Greater ≡ Less = i in cc)
less-between m r x t (key.TopUp q) h i = absurd (let c : Greater ≡ Less = i in cc)
less-between m r x t (key.Withdrawal n) h i = absurd (let c : Greater ≡ Less = i in cc)
less-between m r x t (key.Reading n q u) h i =
    let one = squeeze m n.0 (ordering_then (nat_cmp (register_place r) (register_place q)) (ordering_then (nat_cmp x u) Equal)) (ordering_then (nat_cmp (register_place q) (register_place r)) (ordering_then (nat_cmp u t) Equal)) h i in
    let two = squeeze (register_place r) (register_place q) (ordering_then (nat_cmp x u) Equal) (ordering_then (nat_cmp u t) Equal) one.1 one.2 in
    (u, λ j. key.Reading (record { 0 = sym one.0 j }) (register-one q r (sym two.0) j) u)

pub key-between : (m : ℕ) (r : Register) (x t : ℕ) (k : Key) → KeyUpTo (reading_key m r x) k → KeyUpTo k (reading_key m r t) → (s : ℕ) × (k ≡ reading_key m r s)
key-between m r x t k (inr e) b = (x, sym e)
key-between m r x t k (inl a) (inr e) = (t, e)
key-between m r x t k (inl a) (inl b) = less-between m r x t k a b

-- ---- the records behind a reading
-- none of the records behind place i and before place j is a counting reading of the register
pub record IsPassed (s : List Entry) (m : ℕ) (r : Register) (i j : ℕ) : Type 0 where
  pub none : (p : ℕ) (e : Entry) (t : ℕ) → i < p → p < j → IsAt s p e → e.key ≡ reading_key m r t → point (contents_at s) m r t ≡ None

pub passed-none : (s : List Entry) (m : ℕ) (r : Register) (i : ℕ) → IsPassed s m r i (i + 1)
passed-none s m r i = record { none = λ p e t l k. absurd (omega arith) }

-- a record with the key of a reading that isn't a counting one
pub not-point : (s : List Entry) (m : ℕ) (r : Register) (t : ℕ) (e : Entry) → AllStand s → Member e s → e.key ≡ reading_key m r t → (Counts s e → (w : ℕ) → e.content ≡ content.Reading w → ⊥) → point (contents_at s) m r t ≡ None
not-point s m r t e all mem k n =
    elim (option-cases (point (contents_at s) m r t)) [
      | inl q ↦ q
      | inr f ↦ (
          let c : Counts s (reading_entry m r t f.0) = (one-is_counting s (reading_entry m r t f.0) tt).0 (wh-back (contents_at s (reading_key m r t)) f.0 f.1) in
          let same : e ≡ reading_entry m r t f.0 = c.1 e (all-stand s e all mem) k in
          let P : Entry → Type 0 = λ v. Counts s v in
          absurd (n (subst P (sym same) c) f.0 (ap (λ (v : Entry). v.content) same)))
    ]

pub passed-more : (s : List Entry) (m : ℕ) (r : Register) (i j t : ℕ) (e : Entry) → AllStand s → IsPassed s m r i j → IsAt s j e → e.key ≡ reading_key m r t →
    (Counts s e → (w : ℕ) → e.content ≡ content.Reading w → ⊥) → IsPassed s m r i (j + 1)
passed-more s m r i j t e all h a k n = record {
  none = λ p f u l g b q. elim (cases_lt p j) [
    | inl before ↦ h.none p f u l before b q
    | inr here ↦ (
        let same : p ≡ j = omega arith in
        let P : ℕ → Type 0 = λ v. IsAt s v f in
        let one : f ≡ e = at-one s j f e (subst P same b) a in
        let v : u ≡ t = ap second_of (sym q ∙ ap (λ (x : Entry). x.key) one ∙ k) in
        let Q : ℕ → Type 0 = λ x. point (contents_at s) m r x ≡ None in
        subst Q (sym v) (not-point s m r t e all (at-member s j e a) k n))
  ];
}

-- what stands at place i, and at place j behind it
pub record AreRegister (s : List Entry) (m : ℕ) (r : Register) (x i j : ℕ) (b : Entry) : Type 0 where
  pub rising : IsInOrder entry_order s
  pub standing : AllStand s
  pub at : IsAt s i b
  pub key : b.key ≡ reading_key m r x
  pub later : i < j
  pub passed : IsPassed s m r i j

-- a reading of the register behind second x stands behind place i
behind-place : (s : List Entry) (m : ℕ) (r : Register) (x i j t p : ℕ) (b f : Entry) → AreRegister s m r x i j b → IsAt s p f → f.key ≡ reading_key m r t → x + 1 ≤ t → i < p
behind-place s m r x i j t p b f h a k l =
    elim (cases_lt i p) [
      | inl g ↦ g
      | inr g ↦ (
          let P : Key → Type 0 = λ v. KeyUpTo v b.key in
          let Q : Key → Type 0 = λ v. KeyUpTo (reading_key m r t) v in
          let q : t ≤ x = reading-up_to m r t x (subst Q h.key (subst P k (at-up_to s p i f b h.rising a h.at g))) in
          absurd (omega arith))
    ]

-- where none from place j on is a counting reading of the register before second y, none is behind second x
none-between : (s : List Entry) (m : ℕ) (r : Register) (x i j y : ℕ) (b : Entry) → AreRegister s m r x i j b →
    ((f : Entry) (p u : ℕ) → IsAt s p f → j ≤ p → f.key ≡ reading_key m r u → u < y → point (contents_at s) m r u ≡ None) → NoPoint (contents_at s) m r (x + 1) y s
none-between s m r x i j y b h n = λ f mem u q g v.
    let at = member-at s f mem in
    elim (cases_lt at.0 j) [
      | inl before ↦ h.passed.none at.0 f u (behind-place s m r x i j u at.0 b f h at.1 q g) before at.1 q
      | inr behind ↦ n f at.0 u at.1 behind q v
    ]

pub next-here : (s : List Entry) (m : ℕ) (r : Register) (x i j t w y : ℕ) (b e : Entry) → AreRegister s m r x i j b → IsAt s j e → e.key ≡ reading_key m r t → e.content ≡ content.Reading w →
    Counts s e → t < y → IsEarliestAmong (contents_at s) m r (x + 1) y s (Some (t, w))
next-here s m r x i j t w y b e h a k o c l =
    let same : e ≡ reading_entry m r t w = λ n. record { key = k n; content = o n } in
    let P : Entry → Type 0 = λ v. Counts s v in
    let Q : Key → Type 0 = λ v. KeyUpTo v e.key in
    let R : Key → Type 0 = λ v. KeyUpTo (reading_key m r x) v in
    let up : x ≤ t = reading-up_to m r x t (subst R k (subst Q h.key (at-up_to s i j b e h.rising h.at a (let g = h.later in omega (arith, g))))) in
    let apart : x ≡ t → ⊥ = λ q. (
    let one : b ≡ e = c.1 b (all-stand s b h.standing (at-member s i b h.at)) (h.key ∙ ap (λ (v : ℕ). reading_key m r v) q ∙ sym k) in
    let S : Entry → Type 0 = λ v. IsAt s j v in
    apart-places s i j b h (subst S (sym one) a)) in (
      ap wh_of (counts-one s (reading_entry m r t w) (subst P same c)),
      not-same x t up apart,
      l,
      none-between s m r x i j t b h (λ f p u at behind q v.
          let S : Key → Type 0 = λ z. KeyUpTo z f.key in
          let T : Key → Type 0 = λ z. KeyUpTo (reading_key m r t) z in
          let z : t ≤ u = reading-up_to m r t u (subst T q (subst S k (at-up_to s j p e f h.rising a at behind))) in
          absurd (omega (arith, z, v))),
    )
  where
    not-same : (p q : ℕ) → p ≤ q → (p ≡ q → ⊥) → p + 1 ≤ q
    not-same p q l n = omega (arith, n)

    apart-places : (s : List Entry) (i j : ℕ) (b : Entry) → AreRegister s m r x i j b → IsAt s j b → ⊥
    apart-places s i j b h a = entry-apart s i j b h.rising h.at a h.later

-- the records from place j on are behind those of the register
pub next-stop : (s : List Entry) (m : ℕ) (r : Register) (x i j y : ℕ) (b e : Entry) → AreRegister s m r x i j b → IsAt s j e → ((t : ℕ) → e.key ≡ reading_key m r t → ⊥) →
    NoPoint (contents_at s) m r (x + 1) y s
next-stop s m r x i j y b e h a n = none-between s m r x i j y b h (λ f p u at behind q v.
    let P : Key → Type 0 = λ z. KeyUpTo z e.key in
    let Q : Key → Type 0 = λ z. KeyUpTo e.key z in
    let k = key-between m r x u e.key (subst P h.key (at-up_to s i j b e h.rising h.at a (let l = h.later in omega (arith, l)))) (subst Q q (at-up_to s j p e f h.rising a at behind)) in
    absurd (n k.0 k.1))

pub next-end : (s : List Entry) (m : ℕ) (r : Register) (x i j y : ℕ) (b : Entry) → AreRegister s m r x i j b → length s ≤ j → NoPoint (contents_at s) m r (x + 1) y s
next-end s m r x i j y b h l = none-between s m r x i j y b h (λ f p u at behind q v. absurd (let k = at.0 in omega (arith, k, l, behind)))

-- what stands at the place is found there
pub are-register : (s : List Entry) (m : ℕ) (r : Register) (x i j : ℕ) → IsInOrder entry_order s → AllStand s → i < length s → ((e : Entry) → IsAt s i e → e.key ≡ reading_key m r x) → i + 1 ≤ j → IsPassed s m r i j →
    (b : Entry) × AreRegister s m r x i j b
are-register s m r x i j rising all l k g p =
    let b = at-there s i l in
    (b.0, record { rising = rising; standing = all; at = b.1; key = k b.0 b.1; later = omega arith; passed = p })
