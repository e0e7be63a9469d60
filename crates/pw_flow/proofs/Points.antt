-- What `last` and `next` find.
use Rattle.std.proofs.Common.{◌≡◌, ℕ, zero, suc, ◌+◌, ◌<◌, ◌≤◌, Option, Some, None, refl, sym, ◌∙◌, subst, arith, ◌⊎◌, inl, inr}
use Rattle.std.proofs.lemmas.Bool.{cases_lt, cases_eq}
use Rattle.pw_flow.specs.Time.{IsLast, IsNext, last, next}
use Rattle.pw_flow.specs.Changes.{FindsNext}
use Rattle.pw_flow.specs.Changes.{FindsLatest}

pub option-cases : {A : Type 0} (o : Option A) → (o ≡ None) ⊎ ((a : A) × (o ≡ Some a))
option-cases None = inl refl
option-cases (Some a) = inr (a, refl)

pub last-is : {A : Type 0} (p : ℕ → Option A) (t x : ℕ) (w : A) → IsLast p t x w → last p t ≡ Some (x, w)
unfolding last
last-is p zero x w h =
    let e : x ≡ 0 = omega (arith, h.early) in
    let a : p 0 ≡ Some w = rw e at h.holds in
    rw (a, e)
last-is p (suc t) x w h =
    elim (cases_eq x (suc t)) [
      | inl e ↦ (let a : p (suc t) ≡ Some w = rw e at h.holds in rw (a, e))
      | inr d ↦ (
          let le : x ≤ t = omega (arith, h.early) in
          let n : p (suc t) ≡ None = h.none (suc t) (omega (arith, h.early)) (omega arith) in
          rw n (last-is p t x w (record { holds = h.holds; early = le; none = λ s a b. h.none s a (omega arith) })))
    ]

pub last-none : {A : Type 0} (p : ℕ → Option A) (t : ℕ) → ((s : ℕ) → s ≤ t → p s ≡ None) → last p t ≡ None
unfolding last
last-none p zero h = rw (h 0 (omega arith))
last-none p (suc t) h = rw (h (suc t) (omega arith)) (last-none p t (λ s a. h s (omega arith)))

pub last-cases : {A : Type 0} (p : ℕ → Option A) (t : ℕ) → ((s : ℕ) → s ≤ t → p s ≡ None) ⊎ ((x : ℕ) × (w : A) × IsLast p t x w)
last-cases p zero =
    elim (option-cases (p 0)) [
      | inl e ↦ inl (λ s a. let z : s ≡ 0 = omega arith in rw z e)
      | inr a ↦ inr (0, a.0, record { holds = a.1; early = omega arith; none = λ s b c. absurd (omega arith) })
    ]
last-cases p (suc t) =
    elim (option-cases (p (suc t))) [
      | inr a ↦ inr (suc t, a.0, record { holds = a.1; early = omega arith; none = λ s b c. absurd (omega arith) })
      | inl e ↦ elim (last-cases p t) [
        | inl n ↦ inl (λ s a. elim (cases_eq s (suc t)) [ inl i ↦ rw i e | inr d ↦ n s (omega arith) ])
        | inr f ↦ inr (
          f.0,
          f.1,
          record {
            holds = f.2.holds;
            early = omega (arith, f.2.early);
            none = λ s a b. elim (cases_eq s (suc t)) [ inl i ↦ rw i e | inr d ↦ f.2.none s a (omega arith) ];
          },
        )
      ]
    ]

pub next-is : {A : Type 0} (p : ℕ → Option A) (t n y : ℕ) (v : A) → IsNext p t n y v → next p t n ≡ Some (y, v)
unfolding next
next-is p t zero y v h = absurd (omega (arith, h.late, h.early))
next-is p t (suc n) y v h =
    elim (cases_eq y (suc t)) [
      | inl e ↦ (let a : p (suc t) ≡ Some v = rw e at h.holds in rw (a, e))
      | inr d ↦ (
          let gone : p (suc t) ≡ None = h.none (suc t) (omega arith) (omega (arith, h.late)) in
          rw gone (next-is p (suc t) n y v (record { holds = h.holds; late = omega (arith, h.late); early = omega (arith, h.early); none = λ s a b. h.none s (omega arith) b })))
    ]

pub next-none : {A : Type 0} (p : ℕ → Option A) (t n : ℕ) → ((s : ℕ) → t < s → s ≤ t + n → p s ≡ None) → next p t n ≡ None
unfolding next
next-none p t zero h = refl
next-none p t (suc n) h = rw (h (suc t) (omega arith) (omega arith)) (next-none p (suc t) n (λ s a b. h s (omega arith) (omega arith)))

pub next-cases : {A : Type 0} (p : ℕ → Option A) (t n : ℕ) → ((s : ℕ) → t < s → s ≤ t + n → p s ≡ None) ⊎ ((y : ℕ) × (v : A) × IsNext p t n y v)
next-cases p t zero = inl (λ s a b. absurd (omega arith))
next-cases p t (suc n) =
    elim (option-cases (p (suc t))) [
      | inr a ↦ inr (suc t, a.0, record { holds = a.1; late = omega arith; early = omega arith; none = λ s b c. absurd (omega arith) })
      | inl e ↦ elim (next-cases p (suc t) n) [
        | inl away ↦ inl (λ s a b. elim (cases_eq s (suc t)) [ inl i ↦ rw i e | inr d ↦ away s (omega arith) (omega arith) ])
        | inr f ↦ inr (
          f.0,
          f.1,
          record {
            holds = f.2.holds;
            late = omega (arith, f.2.late);
            early = omega (arith, f.2.early);
            none = λ s a b. elim (cases_eq s (suc t)) [ inl i ↦ rw i e | inr d ↦ f.2.none s (omega arith) b ];
          },
        )
      ]
    ]

-- ---- the same in two
pub last-same : {A : Type 0} (p q : ℕ → Option A) (t : ℕ) → ((s : ℕ) → s ≤ t → p s ≡ q s) → last p t ≡ last q t
unfolding last
last-same p q zero h = rw (h 0 (omega arith))
last-same p q (suc t) h =
    let e : last p t ≡ last q t = last-same p q t (λ s a. h s (omega arith)) in
    rw (h (suc t) (omega arith), e)

-- the same from y on, where something stands
pub last-same_from : {A : Type 0} (p q : ℕ → Option A) (y t : ℕ) (v : A) → p y ≡ Some v → y ≤ t → ((s : ℕ) → y ≤ s → p s ≡ q s) → last p t ≡ last q t
last-same_from p q y t v a l h =
    elim (last-cases p t) [
      | inl n ↦ (let z : p y ≡ None = n y l in absurd (cc))
      | inr f ↦ (
          let far : y ≤ f.0 = elim (cases_lt f.0 y) [ inr g ↦ g | inl g ↦ (let z : p y ≡ None = f.2.none y g l in absurd (cc)) ] in
          last-is p t f.0 f.1 f.2 ∙ sym (last-is q t f.0 f.1 (record {
            holds = sym (h f.0 far) ∙ f.2.holds;
            early = f.2.early;
            none = λ s b c. sym (h s (omega arith)) ∙ f.2.none s b c;
          })))
    ]

pub next-same : {A : Type 0} (p q : ℕ → Option A) (t n : ℕ) → ((s : ℕ) → t < s → p s ≡ q s) → next p t n ≡ next q t n
unfolding next
next-same p q t zero h = refl
next-same p q t (suc n) h =
    let e : next p (suc t) n ≡ next q (suc t) n = next-same p q (suc t) n (λ s a. h s (omega arith)) in
    rw (h (suc t) (omega arith), e)

-- the same up to x, where something stands
pub next-same_to : {A : Type 0} (p q : ℕ → Option A) (x t n : ℕ) (w : A) → p x ≡ Some w → t < x → ((s : ℕ) → s ≤ x → p s ≡ q s) → next p t n ≡ next q t n
unfolding next
next-same_to p q x t zero w a l h = refl
next-same_to p q x t (suc n) w a l h =
    let e : p (suc t) ≡ q (suc t) = h (suc t) (omega arith) in
    elim (cases_eq x (suc t)) [
      | inl i ↦ (let f : p (suc t) ≡ Some w = rw i at a in rw (← e, f))
      | inr d ↦ (let r : next p (suc t) n ≡ next q (suc t) n = next-same_to p q x (suc t) n w a (omega arith) h in rw (e, r))
    ]

-- nothing between: the same before and behind
pub last-steady : {A : Type 0} (p : ℕ → Option A) (a t : ℕ) → a ≤ t → ((s : ℕ) → a < s → s ≤ t → p s ≡ None) → last p t ≡ last p a
unfolding last
last-steady p a zero l h = let e : a ≡ 0 = omega arith in rw e
last-steady p a (suc t) l h =
    elim (cases_eq a (suc t)) [
      | inl e ↦ rw e
      | inr d ↦ rw (h (suc t) (omega arith) (omega arith)) (last-steady p a t (omega arith) (λ s b c. h s b (omega arith)))
    ]

pub next-steady : {A : Type 0} (p : ℕ → Option A) (t m n : ℕ) → ((s : ℕ) → t < s → s ≤ t + m → p s ≡ None) → next p t (m + n) ≡ next p (t + m) n
next-steady p t m n h =
    elim (next-cases p (t + m) n) [
      | inl away ↦ next-none p t (m + n) (λ s a b. elim (cases_lt (t + m) s) [ inl g ↦ away s g (omega arith) | inr g ↦ h s a g ])
          ∙ sym (next-none p (t + m) n away)
      | inr f ↦ next-is p t (m + n) f.0 f.1 (record {
        holds = f.2.holds;
        late = omega (arith, f.2.late);
        early = omega (arith, f.2.early);
        none = λ s a b. elim (cases_lt (t + m) s) [ inl g ↦ f.2.none s g b | inr g ↦ h s a g ];
      })
          ∙ sym (next-is p (t + m) n f.0 f.1 f.2)
    ]

-- ---- what a latest or a next that is known says
abbrev pub LastIs : {A : Type 0} → (ℕ → Option A) → ℕ → Option (ℕ × A) → Type 0
LastIs p t None = (s : ℕ) → s ≤ t → p s ≡ None
LastIs p t (Some a) = IsLast p t a.0 a.1

abbrev pub NextIs : {A : Type 0} → (ℕ → Option A) → ℕ → ℕ → Option (ℕ × A) → Type 0
NextIs p t n None = (s : ℕ) → t < s → s ≤ t + n → p s ≡ None
NextIs p t n (Some b) = IsNext p t n b.0 b.1

pub last-tells : {A : Type 0} (p : ℕ → Option A) (t : ℕ) (below : Option (ℕ × A)) → last p t ≡ below → LastIs p t below
last-tells {A} p t below e =
    elim (last-cases p t) [
      | inl n ↦ (let P : Option (ℕ × A) → Type 0 = LastIs p t in subst P (sym (last-none p t n) ∙ e) n)
      | inr f ↦ (let P : Option (ℕ × A) → Type 0 = LastIs p t in subst P (sym (last-is p t f.0 f.1 f.2) ∙ e) f.2)
    ]

pub next-tells : {A : Type 0} (p : ℕ → Option A) (t n : ℕ) (above : Option (ℕ × A)) → next p t n ≡ above → NextIs p t n above
next-tells {A} p t n above e =
    elim (next-cases p t n) [
      | inl a ↦ (let P : Option (ℕ × A) → Type 0 = NextIs p t n in subst P (sym (next-none p t n a) ∙ e) a)
      | inr f ↦ (let P : Option (ℕ × A) → Type 0 = NextIs p t n in subst P (sym (next-is p t n f.0 f.1 f.2) ∙ e) f.2)
    ]

pub last-told : {A : Type 0} (p : ℕ → Option A) (t : ℕ) (below : Option (ℕ × A)) → LastIs p t below → last p t ≡ below
last-told p t None h = last-none p t h
last-told p t (Some a) h = last-is p t a.0 a.1 h

pub next-told : {A : Type 0} (p : ℕ → Option A) (t n : ℕ) (above : Option (ℕ × A)) → NextIs p t n above → next p t n ≡ above
next-told p t n None h = next-none p t n h
next-told p t n (Some b) h = next-is p t n b.0 b.1 h

-- ---- the laws on what they find
pub finds-latest : {A : Type 0} (p : ℕ → Option A) (t : ℕ) → FindsLatest p t
finds-latest p t = record {
  found = λ x a e. last-tells p t (Some (x, a)) e;
  is_found = λ x a h. last-is p t x a h;
  nothing = λ e. last-tells p t None e;
  nothing_found = λ h. last-none p t h;
}

pub finds-next : {A : Type 0} (p : ℕ → Option A) (t n : ℕ) → FindsNext p t n
finds-next p t n = record {
  found = λ y a e. next-tells p t n (Some (y, a)) e;
  is_found = λ y a h. next-is p t n y a h;
  nothing = λ e. next-tells p t n None e;
  nothing_found = λ h. next-none p t n h;
}
