-- The points of a register between two instants, and the starts of a meter, as stretches of their tables.
use Rattle.std.proofs.Common.{◌≡◌, ◌≤◌, ℕ, Bool, true, not, ◌&&◌, Option, Some, None, map, refl, sym, ◌∙◌, arith}
use Rattle.std.specs.Option.{IsSome}
use Rattle.std.specs.BTreeMap.{IsOrdered}
use Rattle.std.specs.BTreeMap.Range.{range_contains}
use Rattle.std.specs.declared.ops.Bound.TheVariants.{Included}
use Rattle.std.specs.Ordering.{is_le, is_lt, nat_cmp, ordering_then}
use Rattle.std.specs.declared.cmp.Ordering.{Ordering}
use Rattle.std.specs.declared.cmp.Ordering.TheVariants.{Less, Equal, Greater}
use Rattle.std.proofs.lemmas.Bool.Decides.{nat_tests}
use Rattle.pw_obis.specs.declared.reference.Register.{Register}
use Rattle.pw_tariff.specs.declared.ids.AccountId.{AccountId}
use Rattle.pw_tariff.specs.declared.ids.MeterId.{MeterId}
use Rattle.pw_time.specs.Instants.{IsInstant}
use Rattle.pw_time.specs.declared.instant.TheConstants.{FIRST_SECOND, LAST_SECOND}
use Rattle.pw_shelf.specs.declared.table.Table.{Table}
use Rattle.pw_shelf.specs.Orders.{point_order, start_order}
use Rattle.pw_model.specs.Seconds.{ListsSeconds}
use Rattle.pw_shelf.specs.Seconds.{ListsSecondsWithin}
use Rattle.pw_shelf.specs.Standing.{point_now, start_now}
use Rattle.pw_shelf.specs.inner.Held.{AreDated}
use Rattle.pw_shelf.specs.inner.Table.{rows_between}
use Rattle.pw_shelf.proofs.RowKeys.{meter-seconds, one-register, points-exact, points-total, register_order, register-seconds, starts-exact, starts-total}
use Rattle.pw_shelf.proofs.Stretches.{lists-alike, stretch}

-- ---- two bounds
squeezed : (o p q : Ordering) → (is_le (ordering_then o p) && not (is_lt (ordering_then o q))) ≡ true → o ≡ Equal
squeezed Less p q h = cc
squeezed Equal p q h = refl
squeezed Greater p q h = cc

between-is : (from to t : ℕ) → (is_le (nat_cmp from t) && not (is_lt (nat_cmp to t))) ≡ true → (from ≤ t) × (t ≤ to)
between-is from to t h = (grind (arith, nat_tests), grind (arith, nat_tests))

is-between : (from to t : ℕ) → from ≤ t → t ≤ to → (is_le (nat_cmp from t) && not (is_lt (nat_cmp to t))) ≡ true
is-between from to t h i = grind (arith, nat_tests)

some-is : {X : Type 0} (o : Option X) (x : X) → o ≡ Some x → IsSome o
some-is None x h = cc
some-is (Some y) x h = refl

-- ---- points of a register
module _ (m : MeterId) (r : Register) (from to : ℕ) where
  points-between : MeterId × Register × ℕ → Bool
  points-between = range_contains point_order (Included (m, r, from)) (Included (m, r, to))

  at-instant : (t : ℕ) → points-between (m, r, t) ≡ (is_le (nat_cmp from t) && not (is_lt (nat_cmp to t)))
  unfolding points-between
  at-instant t = λ i. is_le (register-seconds m r from t i) && not (is_lt (register-seconds m r to t i))

  of-register : (k : MeterId × Register × ℕ) → points-between k ≡ true → k ≡ (m, r, k.2)
  unfolding points-between
  of-register k h =
      let o : (m ≡ k.0) × (r ≡ k.1) = one-register (m, r, 0) k
      (squeezed (register_order (m, r, 0) k) (nat_cmp from k.2) (nat_cmp to k.2) h) in
      λ i. (sym o.0 i, sym o.1 i, k.2)

  pub points-within : (rows : Table (MeterId × Register × ℕ) ℕ) → IsOrdered point_order rows.rows →
      ListsSecondsWithin from to (point_now rows m.0 r)
      (map (λ (e : (MeterId × Register × ℕ) × ℕ). (e.0.2, e.1))
      (rows_between point_order (Included (m, r, from)) (Included (m, r, to)) rows))
  unfolding points-between
  points-within rows s = lists-alike _ (λ a. (
    λ f. (let b = between-is from to a.0 (sym (at-instant a.0) ∙ f.0) in (b.0, b.1, f.1)),
    λ f. (at-instant a.0 ∙ is-between from to a.0 f.0 f.1, f.2),
  )) (stretch point_order points-total points-exact rows s (Included (m, r, from)) (Included (m, r, to)) (λ k. k.2)
      (λ t. (m, r, t)) (λ t. refl) of-register (register-seconds m r))

-- ---- starts of a meter
module _ (m : MeterId) where
  starts-between : MeterId × ℕ → Bool
  starts-between = range_contains start_order (Included (m, FIRST_SECOND)) (Included (m, LAST_SECOND))

  at-start : (t : ℕ) → starts-between (m, t) ≡ (is_le (nat_cmp FIRST_SECOND t) && not (is_lt (nat_cmp LAST_SECOND t)))
  unfolding starts-between
  at-start t = λ i. is_le (meter-seconds m FIRST_SECOND t i) && not (is_lt (meter-seconds m LAST_SECOND t i))

  of-meter : (k : MeterId × ℕ) → starts-between k ≡ true → k ≡ (m, k.1)
  unfolding starts-between
  of-meter k h =
      let o : (m, 0) ≡ (k.0, 0) = starts-exact (m, 0) (k.0, 0)
      (squeezed-equal m k.0 (squeezed (nat_cmp m.0 k.0.0) (nat_cmp FIRST_SECOND k.1)
      (nat_cmp LAST_SECOND k.1) h)) in
      λ i. ((sym o i).0, k.1)
    where
      squeezed-equal : (a b : MeterId) → nat_cmp a.0 b.0 ≡ Equal → start_order (a, 0) (b, 0) ≡ Equal
      squeezed-equal a b e = rw e refl

  pub starts-all : (rows : Table (MeterId × ℕ) (Option AccountId)) → IsOrdered start_order rows.rows →
      AreDated (start_now rows) →
      ListsSeconds (start_now rows m.0) (map (λ (e : (MeterId × ℕ) × Option AccountId). (e.0.1, e.1))
      (rows_between start_order (Included (m, FIRST_SECOND)) (Included (m, LAST_SECOND)) rows))
  unfolding starts-between
  starts-all rows s d = lists-alike _ (λ a. (
    λ f. f.1,
    λ f. (let n : IsInstant a.0 = d m.0 a.0 (some-is (start_now rows m.0 a.0) a.1 f) in
        (at-start a.0 ∙ is-between FIRST_SECOND LAST_SECOND a.0 n.0 n.1, f)),
  )) (stretch start_order starts-total starts-exact rows s (Included (m, FIRST_SECOND)) (Included (m, LAST_SECOND))
      (λ k. k.1) (λ t. (m, t)) (λ t. refl) of-meter (meter-seconds m))
