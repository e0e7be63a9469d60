-- The rows of a table between two bounds: what stands there, and told by the second.
use Rattle.std.proofs.Common.{◌≡◌, ℕ, Bool, true, false, not, cond, Option, Some, None, List, [], ◌∷◌, ◌++◌, map, refl, sym, ap, subst, ◌∙◌, inl, inr, ◌↔◌}
use Rattle.std.specs.List.{AllByRecursion, filter}
use Rattle.std.specs.List.Sorted.{IsStrictlySortedBy}
use Rattle.std.specs.Map.{keys_of, lookup}
use Rattle.std.specs.BTreeMap.{IsOrdered, get, is_at}
use Rattle.std.specs.BTreeMap.Range.{range_contains}
use Rattle.std.specs.declared.ops.Bound.{Bound}
use Rattle.std.specs.Cmp.{IsTotalOrder}
use Rattle.std.specs.Ordering.{nat_cmp, ordering_reverse}
use Rattle.std.specs.declared.cmp.Ordering.{Ordering}
use Rattle.std.specs.declared.cmp.Ordering.TheVariants.{Less, Equal, Greater}
use Rattle.std.proofs.lemmas.Bool.{cases_Bool}
use Rattle.std.proofs.lemmas.Cmp.{tied_itself}
use Rattle.pw_model.specs.Counting.{Member}
use Rattle.pw_model.specs.Lists.{IsBeforeAll, IsInOrder, Lists}
use Rattle.pw_shelf.specs.declared.table.Table.{Table}
use Rattle.pw_model.specs.Seconds.{by_second}
use Rattle.pw_shelf.specs.Table.{at_now, is_taken}
use Rattle.pw_shelf.specs.inner.Table.{rows_between}
use Rattle.pw_shelf.proofs.AtKey.{kept-member, member-kept}
use Rattle.pw_shelf.proofs.InOrder.{at-is}
use Rattle.pw_shelf.proofs.Listing.{member-last, member-push}

-- a list of the same, said otherwise
pub lists-alike : {X : Type 0} {o : X → X → Ordering} {P Q : X → Type 0} (xs : List X) → ((x : X) → P x ↔ Q x) →
    Lists o P xs → Lists o Q xs
lists-alike xs h l = record {
  rising = l.rising;
  members = λ x. (λ m. (h x).0 ((l.members x).0 m), λ q. (l.members x).1 ((h x).1 q));
}

module _ {K X : Type 0} (order : K → K → Ordering) (total : IsTotalOrder order)
    (exact : (a b : K) → order a b ≡ Equal → a ≡ b) where
  -- ---- what a look-up finds
  lookup-member : (test : K → Bool) (es : List (K × X)) (x : X) → lookup test es ≡ Some x →
      (k : K) × Member (k, x) es × (test k ≡ true)
  lookup-member test [] x h = cc
  lookup-member test (e ∷ es) x h =
      elim (cases_Bool (test e.0)) [
        | inl t ↦ (let i : Some e.1 ≡ Some x = rw t at h in
            let j : e.1 ≡ x = cc in (e.0, inl (λ k. (e.0, sym j k)), t))
        | inr f ↦ (let i : lookup test es ≡ Some x = rw f at h in let m = lookup-member test es x i in
            (m.0, inr m.1, m.2))
      ]

  all-key : (P : K → Type 0) (es : List (K × X)) (e : K × X) → AllByRecursion P (keys_of es) → Member e es → P e.0
  all-key P [] e h m = absurd m
  all-key P (f ∷ es) e h m = elim m [
    | inl i ↦ subst P (sym (ap (λ (a : K × X). a.0) i)) h.0
    | inr n ↦ all-key P es e h.1 n
  ]

  member-lookup : (es : List (K × X)) → IsStrictlySortedBy order (keys_of es) → (e : K × X) → Member e es →
      lookup (is_at (order e.0)) es ≡ Some e.1
  unfolding IsStrictlySortedBy
  member-lookup [] s e m = absurd m
  member-lookup (f ∷ es) s e m =
      elim m [
        | inl i ↦ (let j : order e.0 f.0 ≡ Equal = ap (λ (a : K × X). order e.0 a.0) (sym i)
            ∙ tied_itself total e.0 in
            let v : f.1 ≡ e.1 = ap (λ (a : K × X). a.1) (sym i) in rw j (ap (λ (a : X). Some a) v))
        | inr n ↦ (let less : order f.0 e.0 ≡ Less = all-key (λ y. order f.0 y ≡ Less) es e s.0 n in
            let greater : order e.0 f.0 ≡ Greater = total.antisymm e.0 f.0 ∙ ap ordering_reverse less in
            rw greater (member-lookup es s.1 e n))
      ]

  -- ---- what a filter keeps stays in order
  all-kept : (P : K → Type 0) (p : K × X → Bool) (es : List (K × X)) → AllByRecursion P (keys_of es) →
      AllByRecursion P (keys_of (filter p es))
  all-kept P p [] h = tt
  all-kept P p (e ∷ es) h =
      elim (cases_Bool (p e)) [ inl t ↦ rw t (h.0, all-kept P p es h.1) | inr f ↦ rw f (all-kept P p es h.1) ]

  sorted-kept : (p : K × X → Bool) (es : List (K × X)) → IsStrictlySortedBy order (keys_of es) →
      IsStrictlySortedBy order (keys_of (filter p es))
  unfolding IsStrictlySortedBy
  sorted-kept p [] s = tt
  sorted-kept p (e ∷ es) s =
      elim (cases_Bool (p e)) [
        | inl t ↦ rw t (all-kept (λ y. order e.0 y ≡ Less) p es s.0, sorted-kept p es s.1)
        | inr f ↦ rw f (sorted-kept p es s.1)
      ]

  -- the last stands behind the others
  last-behind : (e a : K × X) (es : List (K × X)) → IsStrictlySortedBy order (keys_of (es ++ a ∷ [])) → Member e es →
      order e.0 a.0 ≡ Less
  unfolding IsStrictlySortedBy
  last-behind e a [] s m = absurd m
  last-behind e a (f ∷ es) s m =
      elim m [
        | inl i ↦ (let P : K × X → Type 0 = λ b. order b.0 a.0 ≡ Less in
            subst P (sym i) (all-key (λ y. order f.0 y ≡ Less) (es ++ a ∷ []) a s.0 (member-last a es)))
        | inr n ↦ last-behind e a es s.1 n
      ]

  -- ---- the rows of a table between two bounds that weren't taken away
  module _ (t : Table K X) (sorted : IsOrdered order t.rows) (lo hi : Bound K) where
    abbrev stands : K × X → Bool
    stands e = not (is_taken order t e.0)

    abbrev inside : K × X → Bool
    inside e = range_contains order lo hi e.0

    abbrev rows : List (K × X)
    rows = rows_between order lo hi t

    standing-told : (b : Bool) (o : Option X) (x : X) → not b ≡ true → o ≡ Some x → cond b None o ≡ Some x
    standing-told true o x n h = cc
    standing-told false o x n h = h

    told-standing : (b : Bool) (o : Option X) (x : X) → cond b None o ≡ Some x → (not b ≡ true) × (o ≡ Some x)
    told-standing true o x h = cc
    told-standing false o x h = (refl, h)

    pub row-told : (e : K × X) → Member e rows → (inside e ≡ true) × (at_now order t e.0 ≡ Some e.1)
    row-told e m =
        let a = member-kept stands (filter inside t.rows.entries) e m in
        let b = member-kept inside t.rows.entries e a.0 in (
          b.1,
          standing-told (is_taken order t e.0) (get order t.rows e.0) e.1 a.1
              (member-lookup t.rows.entries sorted e b.0),
        )

    pub told-row : (k : K) (x : X) → range_contains order lo hi k ≡ true → at_now order t k ≡ Some x → Member (k, x) rows
    told-row k x h n =
        let a = told-standing (is_taken order t k) (get order t.rows k) x n in
        let m = lookup-member (is_at (order k)) t.rows.entries x a.1 in
        let i : m.0 ≡ k = sym (exact k m.0 (at-is _ m.2)) in
        let P : K → Type 0 = λ l. Member (l, x) t.rows.entries in
        kept-member stands (filter inside t.rows.entries) (k, x)
        (kept-member inside t.rows.entries (k, x) (subst P i m.1) h) a.0

    pub rows-sorted : IsStrictlySortedBy order (keys_of rows)
    rows-sorted = sorted-kept stands (filter inside t.rows.entries) (sorted-kept inside t.rows.entries sorted)

    none-unless : (o : Option X) → ((x : X) → o ≡ Some x → ⊥) → o ≡ None
    none-unless None h = refl
    none-unless (Some x) h = absurd (h x refl)

    -- nothing stands between them
    pub no-row : rows ≡ [] → (k : K) → range_contains order lo hi k ≡ true → at_now order t k ≡ None
    no-row is k h = none-unless (at_now order t k) (λ x i.
        let P : List (K × X) → Type 0 = Member (k, x) in subst P is (told-row k x h i))

    -- the first and the last that stand between them
    pub first-row : (e : K × X) (others : List (K × X)) → rows ≡ e ∷ others → (k : K) →
        range_contains order lo hi k ≡ true → order k e.0 ≡ Less → at_now order t k ≡ None
    unfolding IsStrictlySortedBy
    first-row e others is k h l = none-unless (at_now order t k) (λ x i.
        let P : List (K × X) → Type 0 = Member (k, x) in
        let s : IsStrictlySortedBy order (keys_of (e ∷ others)) =
        subst (λ (r : List (K × X)). IsStrictlySortedBy order (keys_of r)) is rows-sorted in
        elim (subst P is (told-row k x h i)) [
          | inl j ↦ (let same : order k e.0 ≡ Equal = ap (λ (a : K × X). order k a.0) (sym j)
              ∙ tied_itself total k in let w : Less ≡ Equal = sym l ∙ same in cc)
          | inr m ↦ (let less : order e.0 k ≡ Less = all-key (λ y. order e.0 y ≡ Less) others (k, x) s.0 m in
              let greater : order k e.0 ≡ Greater = total.antisymm k e.0 ∙ ap ordering_reverse less in
              let w : Less ≡ Greater = sym l ∙ greater in cc)
        ])

    pub last-row : (e : K × X) (others : List (K × X)) → rows ≡ others ++ e ∷ [] → (k : K) →
        range_contains order lo hi k ≡ true → order e.0 k ≡ Less → at_now order t k ≡ None
    last-row e others is k h l = none-unless (at_now order t k) (λ x i.
        let P : List (K × X) → Type 0 = Member (k, x) in
        let s : IsStrictlySortedBy order (keys_of (others ++ e ∷ [])) =
        subst (λ (r : List (K × X)). IsStrictlySortedBy order (keys_of r)) is rows-sorted in
        elim (member-push (k, x) e others (subst P is (told-row k x h i))) [
          | inl m ↦ (let less : order k e.0 ≡ Less = last-behind (k, x) e others s m in
              let greater : order e.0 k ≡ Greater = total.antisymm e.0 k ∙ ap ordering_reverse less in
              let w : Less ≡ Greater = sym l ∙ greater in cc)
          | inr j ↦ (let same : order e.0 k ≡ Equal = ap (λ (a : K × X). order e.0 a.0) j
              ∙ tied_itself total e.0 in let w : Less ≡ Equal = sym l ∙ same in cc)
        ])

    -- ---- told by the second
    module _ (second : K → ℕ) (at : ℕ → K) (back : (s : ℕ) → second (at s) ≡ s)
        (between : (k : K) → range_contains order lo hi k ≡ true → k ≡ at (second k))
        (by : (s u : ℕ) → order (at s) (at u) ≡ nat_cmp s u) where
      abbrev told : K × X → ℕ × X
      told e = (second e.0, e.1)

      earlier : (a b : K) → range_contains order lo hi a ≡ true → range_contains order lo hi b ≡ true →
          order a b ≡ Less → nat_cmp (second a) (second b) ≡ Less
      earlier a b h i l = sym (by (second a) (second b)) ∙ sym (λ k. order (between a h k) (between b i k)) ∙ l

      before-all : (e : K × X) (es : List (K × X)) → inside e ≡ true → ((f : K × X) → Member f es → inside f ≡ true) →
          AllByRecursion (λ y. order e.0 y ≡ Less) (keys_of es) → IsBeforeAll by_second (told e) (map told es)
      before-all e [] h i l = tt
      before-all e (f ∷ es) h i l =
          (earlier e.0 f.0 h (i f (inl refl)) l.0, before-all e es h (λ g m. i g (inr m)) l.1)

      rising : (es : List (K × X)) → ((f : K × X) → Member f es → inside f ≡ true) →
          IsStrictlySortedBy order (keys_of es) → IsInOrder by_second (map told es)
      unfolding IsStrictlySortedBy
      rising [] i s = tt
      rising (e ∷ es) i s = (before-all e es (i e (inl refl)) (λ f m. i f (inr m)) s.0, rising es (λ f m. i f (inr m)) s.1)

      told-member : (es : List (K × X)) (a : ℕ × X) → Member a (map told es) → (e : K × X) × Member e es × (a ≡ told e)
      told-member [] a m = absurd m
      told-member (e ∷ es) a m = elim m [
        | inl i ↦ (e, inl refl, i)
        | inr n ↦ (let q = told-member es a n in (q.0, inr q.1, q.2))
      ]

      member-told : (es : List (K × X)) (e : K × X) → Member e es → Member (told e) (map told es)
      member-told [] e m = absurd m
      member-told (f ∷ es) e m = elim m [
        | inl i ↦ inl (ap (λ (a : K × X). told a) i)
        | inr n ↦ inr (member-told es e n)
      ]

      -- the rows that stand, in order, each at its second
      pub stretch : Lists by_second
          (λ a. (range_contains order lo hi (at a.0) ≡ true) × (at_now order t (at a.0) ≡ Some a.1)) (map told rows)
      stretch = record {
        rising = rising rows (λ f m. (row-told f m).0) rows-sorted;
        members = λ a. (
          λ m. (let q = told-member rows a m in
              let e : K × X = q.0 in
              let r = row-told e q.1 in
              let i : e.0 ≡ at (second e.0) = between e.0 r.0 in
              let P : K → Type 0 = λ k. (range_contains order lo hi k ≡ true) × (at_now order t k ≡ Some e.1) in
              let Q : ℕ × X → Type 0 =
              λ b. (range_contains order lo hi (at b.0) ≡ true) × (at_now order t (at b.0) ≡ Some b.1) in
              subst Q (sym q.2) (subst P i r)),
          λ f. (let Q : ℕ → Type 0 = λ s. Member (s, a.1) (map told rows) in
              subst Q (back a.0) (member-told rows (at a.0, a.1) (told-row (at a.0) a.1 f.0 f.1))),
        );
      }
