-- The starts of stretches tell at each second whose it is, by the number of its stretch.
use Rattle.std.proofs.Common.{◌≡◌, ◌==◌, ◌&&◌, ◌⊎◌, ℕ, zero, suc, ◌+◌, ◌<◌, ◌≤◌, nat_le, nat_lt, Bool, true, false, cond, Option, Some, None, List, [], ◌∷◌, ◌++◌, length, get_or, map, refl, ap, sym, subst, ◌∙◌, inl, inr, arith}
use Rattle.std.specs.List.{filter}
use Rattle.std.specs.Option.{option_map}
use Rattle.std.proofs.lemmas.Bool.{cases_Bool, cases_lt, eq-eqb, ne_eqb, lt-ltb, le-ltb, le-leb, lt-leb, and_left, and_right}
use Rattle.std.proofs.lemmas.Option.{none-some, same_Some}
use Rattle.pw_time.specs.declared.instant.TheConstants.{END_SECOND}
use Rattle.pw_tariff.specs.declared.ids.AccountId.{AccountId}
use Rattle.pw_tariff.specs.Owners.{owner_by_starts, owner_from, same_owner, start_at}
use Rattle.pw_flow.specs.Time.{IsLast, last}
use Rattle.pw_flow.proofs.Points.{last-is, last-none, last-same_from}
use Rattle.pw_model.specs.Energy.{account}
use Rattle.pw_model.specs.Lists.{IsInOrder}
use Rattle.pw_model.specs.Seconds.{by_second}
use Rattle.pw_months.specs.Between.{lies_in}
use Rattle.pw_bills.specs.Stretches.{end_of, first_of}
use Rattle.pw_bills.specs.inner.Naming.{OwnerStart, is_behind, name_in, named_from, owner_begun, renamed, stretch}
use Rattle.pw_bills.proofs.Begins.{begins-earlier, begins-here, begins-kept, begins-later, begins-left, begins-nowhere, begins-other, begins-renamed, begun-owner, behind-is, behind-not, named-since}

-- ---- stretches that rise
-- each begins before the next one, and the last before the end
abbrev pub Rises : List ℕ → ℕ → Type 0
Rises [] end = Unit {0}
Rises (b ∷ begins) end = (b < first_of begins end) × Rises begins end

pub rises : (begins : List ℕ) (end : ℕ) → ((i : ℕ) → i < length begins → get_or begins i 0 < end_of begins end i) → Rises begins end
rises [] end h = tt
rises (b ∷ begins) end h = (
  h 0 (omega arith),
  rises begins end (λ i l.
      let e : suc i + 1 ≡ suc (i + 1) = omega arith in
      let m : suc i < suc (length begins) = omega (arith, l) in
      let P : ℕ → Type 0 = λ k. get_or begins i 0 < get_or (b ∷ begins) k end in
      subst P e (h (suc i) m)),
)

pub begin-least : (begins : List ℕ) (end i : ℕ) → Rises begins end → i < length begins → first_of begins end ≤ get_or begins i 0
begin-least [] end i w l = absurd (omega (arith, l))
begin-least (b ∷ begins) end zero w l = omega arith
begin-least (b ∷ begins) end (suc i) w l =
    let q = w.0 in
    let k = begin-least begins end i w.1 (omega (arith, l)) in
    omega (arith, q, k)

pub end-most : (begins : List ℕ) (end : ℕ) → Rises begins end → first_of begins end ≤ end
end-most [] end w = omega arith
end-most (b ∷ begins) end w = let q = w.0 in let k = end-most begins end w.1 in omega (arith, q, k)

pub ends-most : (begins : List ℕ) (end i : ℕ) → Rises begins end → i < length begins → end_of begins end i ≤ end
ends-most [] end i w l = absurd (omega (arith, l))
ends-most (b ∷ begins) end zero w l = end-most begins end w.1
ends-most (b ∷ begins) end (suc i) w l =
    let e : suc i + 1 ≡ suc (i + 1) = omega arith in
    let P : ℕ → Type 0 = λ k. get_or (b ∷ begins) k end ≤ end in
    subst P (sym e) (ends-most begins end i w.1 (omega (arith, l)))

-- ---- one stretch
module _ (starts : List OwnerStart) (a : AccountId) (n from until : ℕ) where
  within-stretch : (s : ℕ) → from < s → s < until → start_at (stretch starts a n from until) s ≡ option_map (name_in a n) (start_at starts s)
  within-stretch s l m =
      begins-other (from, name_in a n (owner_begun None starts from)) (map (renamed (name_in a n)) (filter (is_behind from until) starts)) s (λ e. absurd (omega (arith, e, l)))
      ∙ begins-renamed (name_in a n) (filter (is_behind from until) starts) s
      ∙ ap (λ (o : Option (Option AccountId)). option_map (name_in a n) o) (begins-kept (is_behind from until) starts s (λ x i. behind-is from until x s l m i))

  outside-stretch : (s : ℕ) → from < until → (s < from) ⊎ (until ≤ s) → start_at (stretch starts a n from until) s ≡ None
  outside-stretch s r far =
      let apart : from ≡ s → ⊥ = λ e. elim far [ inl l ↦ absurd (omega (arith, e, l)) | inr l ↦ absurd (omega (arith, e, l, r)) ] in
      let away : (s ≤ from) ⊎ (until ≤ s) = elim far [ inl l ↦ inl (omega (arith, l)) | inr l ↦ inr l ] in
      begins-other (from, name_in a n (owner_begun None starts from)) (map (renamed (name_in a n)) (filter (is_behind from until) starts)) s apart
      ∙ begins-renamed (name_in a n) (filter (is_behind from until) starts) s
      ∙ ap (λ (o : Option (Option AccountId)). option_map (name_in a n) o) (begins-left (is_behind from until) starts s (λ x i. behind-not from until x s away i))

-- ---- stretches one behind another
module _ (starts : List OwnerStart) (a : AccountId) where
  pub before-stretches : (n : ℕ) (begins : List ℕ) (end s : ℕ) → Rises begins end → s < first_of begins end → start_at (named_from starts a n begins end) s ≡ None
  before-stretches n [] end s w l = elim (cases_lt end END_SECOND) [
    | inl e ↦ rw (lt-ltb end END_SECOND e) (begins-other (end, None) [] s (λ i. absurd (omega (arith, i, l))) ∙ begins-nowhere s)
    | inr e ↦ rw (le-ltb end END_SECOND e) (begins-nowhere s)
  ]
  before-stretches n (b ∷ begins) end s w l =
      let q = w.0 in
      begins-later (stretch starts a n b (first_of begins end)) (named_from starts a (n + 1) begins end) s (outside-stretch starts a n b (first_of begins end) s w.0 (inl l))
      ∙ before-stretches (n + 1) begins end s w.1 (omega (arith, l, q))

  -- something begins with the first, and with the end
  first-begins : (n : ℕ) (begins : List ℕ) (end : ℕ) → first_of begins end < END_SECOND → (o : Option AccountId) × (start_at (named_from starts a n begins end) (first_of begins end) ≡ Some o)
  first-begins n [] end l = (None, rw (lt-ltb end END_SECOND l) (begins-here (end, None) [] end refl))
  first-begins n (b ∷ begins) end l = (
    name_in a n (owner_begun None starts b),
    begins-here (b, name_in a n (owner_begun None starts b)) (map (renamed (name_in a n)) (filter (is_behind b (first_of begins end)) starts) ++ named_from starts a (n + 1) begins end) b refl,
  )

  -- whose a second of the first stretch is
  first-owner : (n b : ℕ) (begins : List ℕ) (end t : ℕ) → IsInOrder by_second starts → Rises (b ∷ begins) end → b ≤ t → t < first_of begins end →
      owner_by_starts (named_from starts a n (b ∷ begins) end) t ≡ name_in a n (owner_by_starts starts t)
  unfolding owner_by_starts
  first-owner n b begins end t r w l m =
      let one : List OwnerStart = stretch starts a n b (first_of begins end) in
      let others : List OwnerStart = named_from starts a (n + 1) begins end in
      let here : start_at (one ++ others) b ≡ Some (name_in a n (owner_from (last (start_at starts) b)))
      = begins-here (b, name_in a n (owner_begun None starts b)) (map (renamed (name_in a n)) (filter (is_behind b (first_of begins end)) starts) ++ others) b refl
      ∙ ap (λ (o : Option AccountId). Some (name_in a n o)) (begun-owner starts b r) in
      named-since (start_at starts) (start_at (one ++ others)) (name_in a n) b (first_of begins end) here
      (λ s x y. begins-earlier one others s (before-stretches (n + 1) begins end s w.1 y) ∙ within-stretch starts a n b (first_of begins end) s x y)
      t l m

  -- the first stretch tells nothing of the seconds behind it
  others-owner : (n b : ℕ) (begins : List ℕ) (end t : ℕ) → Rises (b ∷ begins) end → first_of begins end ≤ t → t < END_SECOND →
      owner_by_starts (named_from starts a n (b ∷ begins) end) t ≡ owner_by_starts (named_from starts a (n + 1) begins end) t
  unfolding owner_by_starts
  others-owner n b begins end t w l e =
      let one : List OwnerStart = stretch starts a n b (first_of begins end) in
      let others : List OwnerStart = named_from starts a (n + 1) begins end in
      let h = first-begins (n + 1) begins end (omega (arith, l, e)) in
      let alike : (s : ℕ) → first_of begins end ≤ s → start_at (one ++ others) s ≡ start_at others s
      = λ s k. begins-later one others s (outside-stretch starts a n b (first_of begins end) s w.0 (inr k)) in
      ap owner_from (last-same_from (start_at (one ++ others)) (start_at others) (first_of begins end) t h.0 (alike (first_of begins end) (omega arith) ∙ h.1) l alike)

  before-owner : (n : ℕ) (begins : List ℕ) (end t : ℕ) → Rises begins end → t < first_of begins end → owner_by_starts (named_from starts a n begins end) t ≡ None
  unfolding owner_by_starts
  before-owner n begins end t w l = ap owner_from (last-none (start_at (named_from starts a n begins end)) t (λ s m. before-stretches n begins end s w (omega (arith, l, m))))

  behind-owner : (n end t : ℕ) → end ≤ t → t < END_SECOND → owner_by_starts (named_from starts a n [] end) t ≡ None
  unfolding owner_by_starts
  behind-owner n end t l e =
      let k : nat_lt end END_SECOND ≡ true = lt-ltb end END_SECOND (omega (arith, l, e)) in
      let h : IsLast (start_at ((end, None) ∷ [])) t end None = record {
        holds = begins-here (end, None) [] end refl;
        early = l;
        none = λ s x y. begins-other (end, None) [] s (λ i. absurd (omega (arith, i, x))) ∙ begins-nowhere s;
      } in
      rw k (ap owner_from (last-is (start_at ((end, None) ∷ [])) t end None h))

-- ---- by the number of the second's stretch
number_in : ℕ → List ℕ → ℕ → ℕ → Option ℕ
number_in n [] end t = None
number_in n (b ∷ begins) end t = cond (nat_lt t b) None (cond (nat_lt t (first_of begins end)) (Some n) (number_in (n + 1) begins end t))

abbrev named_as : AccountId → Option ℕ → Option AccountId → Option AccountId
named_as a None o = None
named_as a (Some n) o = name_in a n o

owner-named : (starts : List OwnerStart) (a : AccountId) (n : ℕ) (begins : List ℕ) (end t : ℕ) → IsInOrder by_second starts → Rises begins end → first_of begins end ≤ t → t < END_SECOND →
    owner_by_starts (named_from starts a n begins end) t ≡ named_as a (number_in n begins end t) (owner_by_starts starts t)
unfolding number_in
owner-named starts a n [] end t r w l e = behind-owner starts a n end t l e
owner-named starts a n (b ∷ begins) end t r w l e =
    let p : nat_lt t b ≡ false = le-ltb t b l in
    elim (cases_lt t (first_of begins end)) [
      | inl m ↦ rw (p, lt-ltb t (first_of begins end) m) (first-owner starts a n b begins end t r w l m)
      | inr m ↦ rw (p, le-ltb t (first_of begins end) m) (others-owner starts a n b begins end t w m e ∙ owner-named starts a (n + 1) begins end t r w.1 m e)
    ]

number-least : (n : ℕ) (begins : List ℕ) (end t m : ℕ) → number_in n begins end t ≡ Some m → n ≤ m
unfolding number_in
number-least n [] end t m e = absurd (none-some m e)
number-least n (b ∷ begins) end t m e = elim (cases_Bool (nat_lt t b)) [
  | inl x ↦ (let v : None ≡ Some m = rw x at e in absurd (none-some m v))
  | inr x ↦ elim (cases_Bool (nat_lt t (first_of begins end))) [
    | inl y ↦ (let v : Some n ≡ Some m = rw (x, y) at e in let k = same_Some n m v in omega (arith, k))
    | inr y ↦ (let v : number_in (n + 1) begins end t ≡ Some m = rw (x, y) at e in let k = number-least (n + 1) begins end t m v in omega (arith, k))
  ]
]

and-true : (b : Bool) → b ≡ (b && true)
and-true true = refl
and-true false = refl

name-same : (a : AccountId) (m n : ℕ) (o : Option AccountId) → same_owner (name_in a m o) (Some (account n)) ≡ ((m == n) && same_owner o (Some a))
name-same a m n o = elim (cases_Bool (same_owner o (Some a))) [
  | inl e ↦ rw e (and-true (m == n))
  | inr e ↦ rw e (sym (and_right (m == n) false refl))
]

not-named : (a : AccountId) (number : Option ℕ) (k : ℕ) (o : Option AccountId) → ((m : ℕ) → number ≡ Some m → m ≡ k → ⊥) → same_owner (named_as a number o) (Some (account k)) ≡ false
not-named a None k o h = refl
not-named a (Some m) k o h = name-same a m k o ∙ ap (λ (c : Bool). c && same_owner o (Some a)) (ne_eqb m k (h m refl))

-- a second before an interval, or behind it, isn't in it
not-before : (x y t : ℕ) (b : Bool) → t < x → (lies_in x y t && b) ≡ false
not-before x y t b l = and_left (lies_in x y t) b (and_left (nat_le x t) (nat_lt t y) (lt-leb x t l))

not-behind : (x y t : ℕ) (b : Bool) → y ≤ t → (lies_in x y t && b) ≡ false
not-behind x y t b l = and_left (lies_in x y t) b (and_right (nat_le x t) (nat_lt t y) (le-ltb t y l))

-- the stretch of a number has just the seconds of that number
stretch-same : (a : AccountId) (n : ℕ) (begins : List ℕ) (end i t : ℕ) (o : Option AccountId) → Rises begins end → i < length begins →
    same_owner (named_as a (number_in n begins end t) o) (Some (account (n + i))) ≡ (lies_in (get_or begins i 0) (end_of begins end i) t && same_owner o (Some a))
unfolding number_in
stretch-same a n [] end i t o w l = absurd (omega (arith, l))
stretch-same a n (b ∷ begins) end zero t o w l = elim (cases_lt t b) [
  | inl x ↦ rw (lt-ltb t b x) (sym (not-before b (first_of begins end) t (same_owner o (Some a)) x))
  | inr x ↦ elim (cases_lt t (first_of begins end)) [
    | inl y ↦ (
        let z : n ≡ n + 0 = omega arith in
        let s : same_owner (name_in a n o) (Some (account (n + 0))) ≡ same_owner o (Some a)
        = name-same a n (n + 0) o ∙ ap (λ (c : Bool). c && same_owner o (Some a)) (eq-eqb n (n + 0) z) in
        rw (le-ltb t b x, lt-ltb t (first_of begins end) y, le-leb b t x) s)
    | inr y ↦ (
        let s : same_owner (named_as a (number_in (n + 1) begins end t) o) (Some (account (n + 0))) ≡ false
        = not-named a (number_in (n + 1) begins end t) (n + 0) o (λ m e k. absurd (let g = number-least (n + 1) begins end t m e in omega (arith, g, k))) in
        let f : (lies_in b (first_of begins end) t && same_owner o (Some a)) ≡ false = not-behind b (first_of begins end) t (same_owner o (Some a)) y in
        let u : nat_lt t (first_of begins end) ≡ false = le-ltb t (first_of begins end) y in
        rw f (rw (le-ltb t b x, u) s))
  ]
]
stretch-same a n (b ∷ begins) end (suc i) t o w l =
    let e : suc i + 1 ≡ suc (i + 1) = omega arith in
    let z : n + 1 + i ≡ n + suc i = omega arith in
    let j : i < length begins = omega (arith, l) in
    let g = begin-least begins end i w.1 j in
    let P : ℕ → Type 0 = λ k. same_owner (named_as a (number_in n (b ∷ begins) end t) o) (Some (account (n + suc i))) ≡ (lies_in (get_or begins i 0) (get_or (b ∷ begins) k end) t && same_owner o (Some a)) in
    let q = w.0 in
    subst P (sym e) (elim (cases_lt t b) [
      | inl x ↦ rw (lt-ltb t b x) (sym (not-before (get_or begins i 0) (get_or begins (i + 1) end) t (same_owner o (Some a)) (omega (arith, x, q, g))))
      | inr x ↦ elim (cases_lt t (first_of begins end)) [
        | inl y ↦ (
            let s : same_owner (name_in a n o) (Some (account (n + suc i))) ≡ false
            = name-same a n (n + suc i) o ∙ ap (λ (c : Bool). c && same_owner o (Some a)) (ne_eqb n (n + suc i) (λ k. absurd (omega (arith, k)))) in
            rw (le-ltb t b x, lt-ltb t (first_of begins end) y) (s ∙ sym (not-before (get_or begins i 0) (get_or begins (i + 1) end) t (same_owner o (Some a)) (omega (arith, y, g)))))
        | inr y ↦ (
            let Q : ℕ → Type 0 = λ k. same_owner (named_as a (number_in (n + 1) begins end t) o) (Some (account k)) ≡ (lies_in (get_or begins i 0) (get_or begins (i + 1) end) t && same_owner o (Some a)) in
            let r : Q (n + suc i) = subst Q z (stretch-same a (n + 1) begins end i t o w.1 j) in
            rw (le-ltb t b x, le-ltb t (first_of begins end) y) r)
      ]
    ])

-- ---- all instants
pub names-told : (starts : List OwnerStart) (a : AccountId) (begins : List ℕ) (end i t : ℕ) → IsInOrder by_second starts → Rises begins end → i < length begins → t < END_SECOND →
    same_owner (owner_by_starts (named_from starts a 0 begins end) t) (Some (account i))
    ≡ (lies_in (get_or begins i 0) (end_of begins end i) t && same_owner (owner_by_starts starts t) (Some a))
names-told starts a begins end i t r w l e = elim (cases_lt t (first_of begins end)) [
  | inl x ↦ (
      let g = begin-least begins end i w l in
      ap (λ (o : Option AccountId). same_owner o (Some (account i))) (before-owner starts a 0 begins end t w x)
      ∙ sym (not-before (get_or begins i 0) (end_of begins end i) t (same_owner (owner_by_starts starts t) (Some a)) (omega (arith, x, g))))
  | inr x ↦ (
      let z : 0 + i ≡ i = omega arith in
      let Q : ℕ → Type 0 = λ k. same_owner (named_as a (number_in 0 begins end t) (owner_by_starts starts t)) (Some (account k)) ≡ (lies_in (get_or begins i 0) (end_of begins end i) t && same_owner (owner_by_starts starts t) (Some a)) in
      let s : Q i = subst Q z (stretch-same a 0 begins end i t (owner_by_starts starts t) w l) in
      ap (λ (o : Option AccountId). same_owner o (Some (account i))) (owner-named starts a 0 begins end t r w x e) ∙ s)
]
