-- What begins at a second in lists of starts, and who owns then.
use Rattle.std.proofs.Common.{◌≡◌, ◌⊎◌, ℕ, zero, suc, ◌<◌, ◌≤◌, nat_le, nat_lt, Bool, true, false, Option, Some, None, List, [], ◌∷◌, ◌++◌, map, refl, ap, sym, subst, ◌∙◌, inl, inr, arith}
use Rattle.std.specs.List.{filter}
use Rattle.std.specs.Option.{option_map}
use Rattle.std.proofs.lemmas.Bool.{cases_Bool, cases_eq, cases_lt, eq-eqb, ne_eqb, lt-ltb, le-ltb, le-leb, lt-leb, and_left, and_right, true≢false}
use Rattle.std.proofs.lemmas.Option.{none-some}
use Rattle.pw_tariff.specs.declared.ids.AccountId.{AccountId}
use Rattle.pw_tariff.specs.Owners.{owner_by_starts, owner_from, start_at}
use Rattle.pw_flow.specs.Time.{IsLast, found, last}
use Rattle.pw_flow.proofs.Points.{last-cases, last-is, last-none, option-cases}
use Rattle.pw_model.specs.Lists.{IsBeforeAll, IsInOrder}
use Rattle.pw_model.specs.Seconds.{by_second}
use Rattle.pw_bills.specs.inner.Naming.{OwnerStart, is_behind, owner_begun, renamed}
use Rattle.pw_parts.proofs.Chart.{less-is}

-- ---- what begins at a second
pub begins-nowhere : (t : ℕ) → start_at [] t ≡ None
unfolding start_at
begins-nowhere t = refl

pub begins-here : (s : OwnerStart) (starts : List OwnerStart) (t : ℕ) → s.0 ≡ t → start_at (s ∷ starts) t ≡ Some s.1
unfolding start_at
begins-here s starts t e = rw (eq-eqb s.0 t e)

pub begins-other : (s : OwnerStart) (starts : List OwnerStart) (t : ℕ) → (s.0 ≡ t → ⊥) → start_at (s ∷ starts) t ≡ start_at starts t
unfolding start_at
begins-other s starts t d = rw (ne_eqb s.0 t d)

pub begins-later : (xs ys : List OwnerStart) (t : ℕ) → start_at xs t ≡ None → start_at (xs ++ ys) t ≡ start_at ys t
begins-later [] ys t h = refl
begins-later (x ∷ xs) ys t h = elim (cases_eq x.0 t) [
  | inl i ↦ absurd (none-some x.1 (sym h ∙ begins-here x xs t i))
  | inr d ↦ begins-other x (xs ++ ys) t d ∙ begins-later xs ys t (sym (begins-other x xs t d) ∙ h)
]

pub begins-earlier : (xs ys : List OwnerStart) (t : ℕ) → start_at ys t ≡ None → start_at (xs ++ ys) t ≡ start_at xs t
begins-earlier [] ys t h = h ∙ sym (begins-nowhere t)
begins-earlier (x ∷ xs) ys t h = elim (cases_eq x.0 t) [
  | inl i ↦ begins-here x (xs ++ ys) t i ∙ sym (begins-here x xs t i)
  | inr d ↦ begins-other x (xs ++ ys) t d ∙ begins-earlier xs ys t h ∙ sym (begins-other x xs t d)
]

map-option : (f : Option AccountId → Option AccountId) (o p : Option (Option AccountId)) → o ≡ p → option_map f o ≡ option_map f p
map-option f o p e = ap (λ (q : Option (Option AccountId)). option_map f q) e

pub begins-renamed : (f : Option AccountId → Option AccountId) (xs : List OwnerStart) (t : ℕ) → start_at (map (renamed f) xs) t ≡ option_map f (start_at xs t)
begins-renamed f [] t = begins-nowhere t ∙ map-option f None (start_at [] t) (sym (begins-nowhere t))
begins-renamed f (x ∷ xs) t = elim (cases_eq x.0 t) [
  | inl i ↦ begins-here (renamed f x) (map (renamed f) xs) t i ∙ map-option f (Some x.1) (start_at (x ∷ xs) t) (sym (begins-here x xs t i))
  | inr d ↦ begins-other (renamed f x) (map (renamed f) xs) t d ∙ begins-renamed f xs t
      ∙ map-option f (start_at xs t) (start_at (x ∷ xs) t) (sym (begins-other x xs t d))
]

pub begins-kept : (p : OwnerStart → Bool) (xs : List OwnerStart) (t : ℕ) → ((s : OwnerStart) → s.0 ≡ t → p s ≡ true) → start_at (filter p xs) t ≡ start_at xs t
begins-kept p [] t h = refl
begins-kept p (x ∷ xs) t h = elim (cases_eq x.0 t) [
  | inl i ↦ rw (h x i) (begins-here x (filter p xs) t i ∙ sym (begins-here x xs t i))
  | inr d ↦ elim (cases_Bool (p x)) [
    | inl y ↦ rw y (begins-other x (filter p xs) t d ∙ begins-kept p xs t h ∙ sym (begins-other x xs t d))
    | inr n ↦ rw n (begins-kept p xs t h ∙ sym (begins-other x xs t d))
  ]
]

pub begins-left : (p : OwnerStart → Bool) (xs : List OwnerStart) (t : ℕ) → ((s : OwnerStart) → s.0 ≡ t → p s ≡ false) → start_at (filter p xs) t ≡ None
begins-left p [] t h = begins-nowhere t
begins-left p (x ∷ xs) t h = elim (cases_Bool (p x)) [
  | inl y ↦ rw y (begins-other x (filter p xs) t (λ i. true≢false (sym y ∙ h x i)) ∙ begins-left p xs t h)
  | inr n ↦ rw n (begins-left p xs t h)
]

pub behind-is : (from until : ℕ) (s : OwnerStart) (t : ℕ) → from < t → t < until → s.0 ≡ t → is_behind from until s ≡ true
behind-is from until s t a b i =
    let x : nat_lt from s.0 ≡ true = lt-ltb from s.0 (omega (arith, i, a)) in
    let y : nat_lt s.0 until ≡ true = lt-ltb s.0 until (omega (arith, i, b)) in
    rw (x, y)

pub behind-not : (from until : ℕ) (s : OwnerStart) (t : ℕ) → (t ≤ from) ⊎ (until ≤ t) → s.0 ≡ t → is_behind from until s ≡ false
behind-not from until s t far i = elim far [
  | inl a ↦ and_left (nat_lt from s.0) (nat_lt s.0 until) (le-ltb from s.0 (omega (arith, i, a)))
  | inr b ↦ and_right (nat_lt from s.0) (nat_lt s.0 until) (le-ltb s.0 until (omega (arith, i, b)))
]

-- ---- in order
pub later : (x : OwnerStart) (xs : List OwnerStart) (t : ℕ) (o : Option AccountId) → IsBeforeAll by_second x xs → start_at xs t ≡ Some o → x.0 < t
later x [] t o b e = absurd (none-some o (sym (begins-nowhere t) ∙ e))
later x (z ∷ zs) t o b e = elim (cases_eq z.0 t) [
  | inl i ↦ (let l : x.0 < z.0 = less-is x.0 z.0 b.0 in omega (arith, l, i))
  | inr d ↦ later x zs t o b.1 (sym (begins-other z zs t d) ∙ e)
]

pub not-yet : (x : OwnerStart) (xs : List OwnerStart) (t : ℕ) → IsBeforeAll by_second x xs → t ≤ x.0 → start_at xs t ≡ None
not-yet x xs t b l = elim (option-cases (start_at xs t)) [
  | inl n ↦ n
  | inr w ↦ absurd (let k = later x xs t w.0 b w.1 in omega (arith, k, l))
]

-- ---- who owns
abbrev owner_or : Option AccountId → Option OwnerStart → Option AccountId
owner_or o None = o
owner_or o (Some s) = s.1

-- a start that has begun decides, where none behind it has
begun-first : (o : Option AccountId) (x : OwnerStart) (xs : List OwnerStart) (t : ℕ) → IsBeforeAll by_second x xs → x.0 ≤ t →
    owner_or x.1 (last (start_at xs) t) ≡ owner_or o (last (start_at (x ∷ xs)) t)
begun-first o x xs t b l = elim (last-cases (start_at xs) t) [
  | inl n ↦ (
      let a : last (start_at xs) t ≡ None = last-none (start_at xs) t n in
      let h : IsLast (start_at (x ∷ xs)) t x.0 x.1 = record {
        holds = begins-here x xs x.0 refl;
        early = l;
        none = λ s c d. begins-other x xs s (λ e. absurd (omega (arith, e, c))) ∙ n s d;
      } in
      let q : last (start_at (x ∷ xs)) t ≡ Some (x.0, x.1) = last-is (start_at (x ∷ xs)) t x.0 x.1 h in
      ap (λ (s : Option OwnerStart). owner_or x.1 s) a ∙ sym (ap (λ (s : Option OwnerStart). owner_or o s) q))
  | inr w ↦ (
      let y : ℕ = w.0 in
      let k : x.0 < w.0 = later x xs w.0 w.1 b w.2.holds in
      let h : IsLast (start_at (x ∷ xs)) t w.0 w.1 = record {
        holds = begins-other x xs w.0 (λ e. absurd (omega (arith, e, k))) ∙ w.2.holds;
        early = w.2.early;
        none = λ s c d. begins-other x xs s (λ e. absurd (omega (arith, e, c, k))) ∙ w.2.none s c d;
      } in
      let a : last (start_at xs) t ≡ Some (w.0, w.1) = last-is (start_at xs) t w.0 w.1 w.2 in
      let q : last (start_at (x ∷ xs)) t ≡ Some (w.0, w.1) = last-is (start_at (x ∷ xs)) t w.0 w.1 h in
      ap (λ (s : Option OwnerStart). owner_or x.1 s) a ∙ sym (ap (λ (s : Option OwnerStart). owner_or o s) q))
]

begun-or : (o : Option AccountId) (xs : List OwnerStart) (t : ℕ) → IsInOrder by_second xs → owner_begun o xs t ≡ owner_or o (last (start_at xs) t)
begun-or o [] t r = sym (ap (λ (s : Option OwnerStart). owner_or o s) (last-none (start_at []) t (λ s l. begins-nowhere s)))
begun-or o (x ∷ xs) t r = elim (cases_lt t x.0) [
  | inl l ↦ (
      let q : nat_le x.0 t ≡ false = lt-leb x.0 t l in
      let a : last (start_at xs) t ≡ None = last-none (start_at xs) t (λ s m. not-yet x xs s r.0 (omega (arith, l, m))) in
      let b : last (start_at (x ∷ xs)) t ≡ None =
      last-none (start_at (x ∷ xs)) t (λ s m. begins-other x xs s (λ e. absurd (omega (arith, e, l, m))) ∙ not-yet x xs s r.0 (omega (arith, l, m))) in
      rw q (begun-or o xs t r.1 ∙ ap (λ (s : Option OwnerStart). owner_or o s) (a ∙ sym b)))
  | inr l ↦ (
      let q : nat_le x.0 t ≡ true = le-leb x.0 t l in
      rw q (begun-or x.1 xs t r.1 ∙ begun-first o x xs t r.0 l))
]

or-none : (s : Option OwnerStart) → owner_or None s ≡ owner_from s
or-none None = refl
or-none (Some s) = refl

pub begun-owner : (xs : List OwnerStart) (t : ℕ) → IsInOrder by_second xs → owner_begun None xs t ≡ owner_by_starts xs t
unfolding owner_by_starts
begun-owner xs t r = begun-or None xs t r ∙ or-none (last (start_at xs) t)

-- ---- where starts follow others under other names
name-step : (p q : ℕ → Option (Option AccountId)) (f : Option AccountId → Option AccountId) (t : ℕ) → q (suc t) ≡ option_map f (p (suc t)) →
    owner_from (last q t) ≡ f (owner_from (last p t)) → owner_from (last q (suc t)) ≡ f (owner_from (last p (suc t)))
unfolding last
name-step p q f t e r = elim (option-cases (p (suc t))) [
  | inl n ↦ (
      let z : q (suc t) ≡ None = e ∙ map-option f (p (suc t)) None n in
      let a : owner_from (found (suc t) (q (suc t)) (last q t)) ≡ owner_from (last q t) = ap (λ (o : Option (Option AccountId)). owner_from (found (suc t) o (last q t))) z in
      let b : owner_from (found (suc t) (p (suc t)) (last p t)) ≡ owner_from (last p t) = ap (λ (o : Option (Option AccountId)). owner_from (found (suc t) o (last p t))) n in
      a ∙ r ∙ sym (ap f b))
  | inr w ↦ (
      let z : q (suc t) ≡ Some (f w.0) = e ∙ map-option f (p (suc t)) (Some w.0) w.1 in
      let a : owner_from (found (suc t) (q (suc t)) (last q t)) ≡ f w.0 = ap (λ (o : Option (Option AccountId)). owner_from (found (suc t) o (last q t))) z in
      let b : owner_from (found (suc t) (p (suc t)) (last p t)) ≡ w.0 = ap (λ (o : Option (Option AccountId)). owner_from (found (suc t) o (last p t))) w.1 in
      a ∙ sym (ap f b))
]

-- from a start on that tells the owner, up to a second
pub named-since : (p q : ℕ → Option (Option AccountId)) (f : Option AccountId → Option AccountId) (from until : ℕ) →
    q from ≡ Some (f (owner_from (last p from))) → ((s : ℕ) → from < s → s < until → q s ≡ option_map f (p s)) →
    (t : ℕ) → from ≤ t → t < until → owner_from (last q t) ≡ f (owner_from (last p t))
unfolding last
named-since p q f from until h k zero a b =
    let P : ℕ → Type 0 = λ n. q n ≡ Some (f (owner_from (last p n))) in
    let e : from ≡ 0 = omega (arith, a) in
    let z : q 0 ≡ Some (f (owner_from (last p 0))) = subst P e h in
    ap (λ (o : Option (Option AccountId)). owner_from (found 0 o None)) z
named-since p q f from until h k (suc t) a b = elim (cases_eq from (suc t)) [
  | inl e ↦ (
      let P : ℕ → Type 0 = λ n. q n ≡ Some (f (owner_from (last p n))) in
      let z : q (suc t) ≡ Some (f (owner_from (last p (suc t)))) = subst P e h in
      ap (λ (o : Option (Option AccountId)). owner_from (found (suc t) o (last q t))) z)
  | inr d ↦ (
      let l : from ≤ t = omega (arith, a, d) in
      let m : t < until = omega (arith, b) in
      let g : from < suc t = omega (arith, l) in
      name-step p q f t (k (suc t) g b) (named-since p q f from until h k t l m))
]
