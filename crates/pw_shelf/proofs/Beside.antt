-- The row of a table next to a key is of the key's register, or there is none of it on that side.
use Rattle.std.proofs.Common.{◌≡◌, ◌<◌, ◌&&◌, ℕ, true, false, not, None, Some, List, [], ◌∷◌, ◌++◌, refl, sym, ap, subst, ◌∙◌, inl, arith}
use Rattle.std.specs.BTreeMap.{IsOrdered}
use Rattle.std.specs.BTreeMap.Range.{range_contains}
use Rattle.std.specs.declared.ops.Bound.TheVariants.{Excluded, Unbounded}
use Rattle.std.specs.Ordering.{is_le, is_lt, nat_cmp, ordering_reverse, ordering_then}
use Rattle.std.specs.declared.cmp.Ordering.{Ordering}
use Rattle.std.specs.declared.cmp.Ordering.TheVariants.{Less, Equal, Greater}
use Rattle.std.proofs.lemmas.Bool.Decides.{nat_tests}
use Rattle.pw_obis.specs.declared.reference.Register.{Register}
use Rattle.pw_tariff.specs.declared.ids.MeterId.{MeterId}
use Rattle.pw_model.specs.Counting.{Member}
use Rattle.pw_shelf.specs.declared.table.Table.{Table}
use Rattle.pw_shelf.specs.Orders.{point_order}
use Rattle.pw_shelf.specs.Seconds.{IsEarliest, IsLatest}
use Rattle.pw_shelf.specs.Standing.{point_now}
use Rattle.pw_shelf.specs.Table.{at_now}
use Rattle.pw_shelf.specs.inner.Table.{rows_between}
use Rattle.pw_shelf.proofs.Listing.{member-last}
use Rattle.pw_shelf.proofs.RowKeys.{one-register, points-exact, points-total, register_order, register-seconds}
use Rattle.pw_shelf.proofs.Stretches.{first-row, last-row, no-row, row-told}

-- ---- orders
less-is : (a b : ℕ) → nat_cmp a b ≡ Less → a < b
less-is a b h = grind (arith, nat_tests)

is-less : (a b : ℕ) → a < b → nat_cmp a b ≡ Less
is-less a b h = grind (arith, nat_tests)

-- below a bound that is left out, and behind one
below-is : (o p : Ordering) → o ≡ ordering_reverse p → not (is_le o) ≡ true → p ≡ Less
below-is o Less e h = refl
below-is o Equal e h = let f : not (is_le Equal) ≡ true = ap (λ (q : Ordering). not (is_le q)) (sym e) ∙ h in cc
below-is o Greater e h = let f : not (is_le Less) ≡ true = ap (λ (q : Ordering). not (is_le q)) (sym e) ∙ h in cc

is-below : (o p : Ordering) → o ≡ ordering_reverse p → p ≡ Less → not (is_le o) ≡ true
is-below o p e h = ap (λ (q : Ordering). not (is_le q)) (e ∙ ap ordering_reverse h)

behind-is : (o : Ordering) → (is_lt o && not false) ≡ true → o ≡ Less
behind-is Less h = refl
behind-is Equal h = cc
behind-is Greater h = cc

is-behind : (o : Ordering) → o ≡ Less → (is_lt o && not false) ≡ true
is-behind o h = ap (λ (q : Ordering). is_lt q && not false) h

-- ---- points of a register next to a second
module _ (rows : Table (MeterId × Register × ℕ) ℕ) (sorted : IsOrdered point_order rows.rows) (m : MeterId)
    (r : Register) (t : ℕ) where
  abbrev Key : Type 0
  Key = MeterId × Register × ℕ

  abbrev here : ℕ → Key
  here s = (m, r, s)

  -- a row of another register stands on one side of all of them
  other-below : (e : Key) (s : ℕ) → ((e.0 ≡ m) × (e.1 ≡ r) → ⊥) → point_order e (here t) ≡ Less →
      point_order e (here s) ≡ Less
  other-below e s n l = go (register_order e (here 0)) refl
    where
      go : (o : Ordering) → register_order e (here 0) ≡ o → point_order e (here s) ≡ Less
      go Less i = ap (λ (o : Ordering). ordering_then o (nat_cmp e.2 s)) i
      go Equal i = absurd (n (one-register e (here 0) i))
      go Greater i =
          let g : Greater ≡ Less = sym (ap (λ (o : Ordering). ordering_then o (nat_cmp e.2 t)) i) ∙ l in cc

  other-behind : (e : Key) (s : ℕ) → ((e.0 ≡ m) × (e.1 ≡ r) → ⊥) → point_order (here t) e ≡ Less →
      point_order (here s) e ≡ Less
  other-behind e s n l = go (register_order (here 0) e) refl
    where
      go : (o : Ordering) → register_order (here 0) e ≡ o → point_order (here s) e ≡ Less
      go Less i = ap (λ (o : Ordering). ordering_then o (nat_cmp s e.2)) i
      go Equal i = let is : (m ≡ e.0) × (r ≡ e.1) = one-register (here 0) e i in absurd (n (sym is.0, sym is.1))
      go Greater i =
          let g : Greater ≡ Less = sym (ap (λ (o : Ordering). ordering_then o (nat_cmp t e.2)) i) ∙ l in cc

  -- ---- before it
  abbrev before : List (Key × ℕ)
  before = rows_between point_order Unbounded (Excluded (here t)) rows

  is-before : (k : Key) → point_order k (here t) ≡ Less →
      range_contains point_order Unbounded (Excluded (here t)) k ≡ true
  is-before k h = is-below (point_order (here t) k) (point_order k (here t)) (points-total.antisymm (here t) k) h

  before-is : (k : Key) → range_contains point_order Unbounded (Excluded (here t)) k ≡ true →
      point_order k (here t) ≡ Less
  before-is k h = below-is (point_order (here t) k) (point_order k (here t)) (points-total.antisymm (here t) k) h

  second-before : (s : ℕ) → s < t → range_contains point_order Unbounded (Excluded (here t)) (here s) ≡ true
  second-before s l = is-before (here s) (register-seconds m r s t ∙ is-less s t l)

  pub none-before : before ≡ [] → (s : ℕ) → s < t → point_now rows m.0 r s ≡ None
  none-before is s l = no-row point_order points-total points-exact rows sorted Unbounded (Excluded (here t)) is (here s)
      (second-before s l)

  -- the last row before it
  module _ (e : Key × ℕ) (others : List (Key × ℕ)) (is : before ≡ others ++ e ∷ []) where
    told-before : (range_contains point_order Unbounded (Excluded (here t)) e.0 ≡ true) × (at_now point_order rows e.0 ≡ Some e.1)
    told-before = let P : List (Key × ℕ) → Type 0 = Member e in
        row-told point_order points-total points-exact rows sorted Unbounded (Excluded (here t)) e
        (subst P (sym is) (member-last e others))

    pub latest-of-register : e.0.0 ≡ m → e.0.1 ≡ r → IsLatest (point_now rows m.0 r) t e.0.2 e.1
    latest-of-register i j =
        let same : e.0 ≡ here e.0.2 = λ k. (i k, j k, e.0.2) in
        let P : Key → Type 0 = λ k. at_now point_order rows k ≡ Some e.1 in
        let Q : Key → Type 0 = λ k. point_order k (here t) ≡ Less in
        record {
          here = subst P same told-before.1;
          before = less-is e.0.2 t (sym (register-seconds m r e.0.2 t) ∙ subst Q same (before-is e.0 told-before.0));
          between = λ s l g. last-row point_order points-total points-exact rows sorted Unbounded (Excluded (here t)) e
              others is (here s) (second-before s g)
              (let R : Key → Type 0 = λ k. point_order k (here s) ≡ Less in
              subst R (sym same) (register-seconds m r e.0.2 s ∙ is-less e.0.2 s l));
        }

    pub none-of-register : ((e.0.0 ≡ m) × (e.0.1 ≡ r) → ⊥) → (s : ℕ) → s < t → point_now rows m.0 r s ≡ None
    none-of-register n s l = last-row point_order points-total points-exact rows sorted Unbounded (Excluded (here t)) e
        others is (here s) (second-before s l) (other-below e.0 s n (before-is e.0 told-before.0))

  -- ---- behind it
  abbrev behind : List (Key × ℕ)
  behind = rows_between point_order (Excluded (here t)) Unbounded rows

  second-behind : (s : ℕ) → t < s → range_contains point_order (Excluded (here t)) Unbounded (here s) ≡ true
  second-behind s l = is-behind (point_order (here t) (here s)) (register-seconds m r t s ∙ is-less t s l)

  pub none-behind : behind ≡ [] → (s : ℕ) → t < s → point_now rows m.0 r s ≡ None
  none-behind is s l = no-row point_order points-total points-exact rows sorted (Excluded (here t)) Unbounded is (here s)
      (second-behind s l)

  -- the first row behind it
  module _ (e : Key × ℕ) (others : List (Key × ℕ)) (is : behind ≡ e ∷ others) where
    told-behind : (range_contains point_order (Excluded (here t)) Unbounded e.0 ≡ true) × (at_now point_order rows e.0 ≡ Some e.1)
    told-behind = let P : List (Key × ℕ) → Type 0 = Member e in
        row-told point_order points-total points-exact rows sorted (Excluded (here t)) Unbounded e
        (subst P (sym is) (inl refl))

    pub earliest-of-register : e.0.0 ≡ m → e.0.1 ≡ r → IsEarliest (point_now rows m.0 r) t e.0.2 e.1
    earliest-of-register i j =
        let same : e.0 ≡ here e.0.2 = λ k. (i k, j k, e.0.2) in
        let P : Key → Type 0 = λ k. at_now point_order rows k ≡ Some e.1 in
        let Q : Key → Type 0 = λ k. point_order (here t) k ≡ Less in
        record {
          here = subst P same told-behind.1;
          behind = less-is t e.0.2 (sym (register-seconds m r t e.0.2)
              ∙ subst Q same (behind-is (point_order (here t) e.0) told-behind.0));
          between = λ s l g. first-row point_order points-total points-exact rows sorted (Excluded (here t)) Unbounded e
              others is (here s) (second-behind s l)
              (let R : Key → Type 0 = λ k. point_order (here s) k ≡ Less in
              subst R (sym same) (register-seconds m r s e.0.2 ∙ is-less s e.0.2 g));
        }

    pub none-of-register-behind : ((e.0.0 ≡ m) × (e.0.1 ≡ r) → ⊥) → (s : ℕ) → t < s → point_now rows m.0 r s ≡ None
    none-of-register-behind n s l = first-row point_order points-total points-exact rows sorted (Excluded (here t))
        Unbounded e others is (here s) (second-behind s l)
        (other-behind e.0 s n (behind-is (point_order (here t) e.0) told-behind.0))
