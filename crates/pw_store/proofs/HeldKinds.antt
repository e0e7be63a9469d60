-- The lists of the records that are kept as some kinds, and what they are by their keys.
use Rattle.std.proofs.Common.{◌≡◌, ◌⊎◌, ◌↔◌, ◌<◌, List, [], ◌∷◌, ◌++◌, Result, Ok, Err, IfOk, Vec, refl, sym, ap, subst, inl, inr, arith}
use Rattle.std.specs.declared.cmp.Ordering.TheVariants.{Less}
use Rattle.pw_model.specs.declared.records.Entry.{Entry}
use Rattle.pw_model.specs.declared.records.Key.{Key}
use Rattle.pw_model.specs.declared.records.Key.TheVariants as key
use Rattle.pw_model.specs.declared.records.Named.TheVariants as named
use Rattle.pw_model.specs.Counting.{Member}
use Rattle.pw_model.specs.Lists.{IsInOrder}
use Rattle.pw_model.specs.Same.{entry_order, key_order}
use Rattle.pw_model.proofs.EntryOrder.{before-all}
use Rattle.pw_model.proofs.InOrder.{before-member}
use Rattle.pw_shelf.specs.Rows.{IsTopUp, IsWithdrawal, ListsHeld, ListsTopUps, ListsWithdrawals}
use Rattle.pw_schema.specs.declared.kind.RecordKind.{RecordKind}
use Rattle.pw_schema.specs.declared.kind.RecordKind.TheVariants.{TopUps, WithdrawnReadings, WithdrawnAssignments, WithdrawnTopUps}
use Rattle.pw_store.specs.inner.Lists.{IsKeptAs}
use Rattle.pw_store.proofs.OfKinds.{key_before, member_behind, member_front, member_in, place}

-- ---- by their keys
other : (k l : RecordKind) → (place k ≡ place l → ⊥) → k ≡ l → ⊥
other k l apart same = apart (ap place same)

topups_kept : (x : Key) → IsTopUp x ↔ IsKeptAs TopUps x
topups_kept (key.Reading m r t) = (λ is. absurd is, λ kept. absurd (other _ _ (λ e. omega (arith, e)) kept))
topups_kept (key.Assignment m t) = (λ is. absurd is, λ kept. absurd (other _ _ (λ e. omega (arith, e)) kept))
topups_kept (key.TopUp r) = (λ is. refl, λ kept. tt)
topups_kept (key.Withdrawal (named.Reading m r t w)) = (λ is. absurd is, λ kept. absurd (other _ _ (λ e. omega (arith, e)) kept))
topups_kept (key.Withdrawal (named.Assignment m t o)) = (λ is. absurd is, λ kept. absurd (other _ _ (λ e. omega (arith, e)) kept))
topups_kept (key.Withdrawal (named.TopUp r a c t)) = (λ is. absurd is, λ kept. absurd (other _ _ (λ e. omega (arith, e)) kept))

abbrev IsKeptLater : Key → Type 0
IsKeptLater x = IsKeptAs WithdrawnAssignments x ⊎ IsKeptAs WithdrawnTopUps x

none_kept : (k : RecordKind) → place k < place WithdrawnReadings → (k ≡ WithdrawnReadings) ⊎ ((k ≡ WithdrawnAssignments) ⊎ (k ≡ WithdrawnTopUps)) → ⊥
none_kept k less (inl i) = let e = ap place i in omega (arith, e, less)
none_kept k less (inr (inl i)) = let e = ap place i in omega (arith, e, less)
none_kept k less (inr (inr i)) = let e = ap place i in omega (arith, e, less)

withdrawals_kept : (x : Key) → IsWithdrawal x ↔ (IsKeptAs WithdrawnReadings x ⊎ IsKeptLater x)
withdrawals_kept (key.Reading m r t) = (λ is. absurd is, λ kept. absurd (none_kept _ (omega arith) kept))
withdrawals_kept (key.Assignment m t) = (λ is. absurd is, λ kept. absurd (none_kept _ (omega arith) kept))
withdrawals_kept (key.TopUp r) = (λ is. absurd is, λ kept. absurd (none_kept _ (omega arith) kept))
withdrawals_kept (key.Withdrawal (named.Reading m r t w)) = (λ is. inl refl, λ kept. tt)
withdrawals_kept (key.Withdrawal (named.Assignment m t o)) = (λ is. inr (inl refl), λ kept. tt)
withdrawals_kept (key.Withdrawal (named.TopUp r a c t)) = (λ is. inr (inr refl), λ kept. tt)

before_by_kind : (k l : RecordKind) → place k < place l → (x y : Key) → IsKeptAs k x → IsKeptAs l y → key_order x y ≡ Less
before_by_kind k l less x y kept later =
    let a = ap place kept in
    let b = ap place later in
    key_before x y (omega (arith, a, b, less))

-- ---- one list behind another
by_keys : (x y : Entry) → key_order x.key y.key ≡ Less → entry_order x y ≡ Less
by_keys x y less = rw less refl

rising_both : (xs ys : List Entry) → IsInOrder entry_order xs → IsInOrder entry_order ys → ((x y : Entry) → Member x xs → Member y ys → entry_order x y ≡ Less) → IsInOrder entry_order (xs ++ ys)
rising_both [] ys a b across = b
rising_both (x ∷ xs) ys a b across = (
  before-all entry_order x (xs ++ ys) (λ y m. elim (member_in y xs ys m) [ inl i ↦ before-member entry_order x y xs a.0 i | inr j ↦ across x y (inl refl) j ]),
  rising_both xs ys a.1 b (λ z y m n. across z y (inr m) n),
)

held_both : (Of Later Is : Key → Type 0) (records xs ys : List Entry) → ((x : Key) → Is x ↔ (Of x ⊎ Later x)) → ((x y : Key) → Of x → Later y → key_order x y ≡ Less) → ListsHeld Of records xs → ListsHeld Later records ys → ListsHeld Is records (xs ++ ys)
held_both Of Later Is records xs ys either across h l = record {
  rising = rising_both xs ys h.rising l.rising (λ x y m n. by_keys x y (across x.key y.key ((h.members x).0 m).1 ((l.members y).0 n).1));
  members = λ x. (
    λ m. elim (member_in x xs ys m) [
      | inl i ↦ (let p = (h.members x).0 i in (p.0, (either x.key).1 (inl p.1)))
      | inr j ↦ (let p = (l.members x).0 j in (p.0, (either x.key).1 (inr p.1)))
    ],
    λ p. elim ((either x.key).0 p.1) [
      | inl a ↦ member_front x xs ys ((h.members x).1 (p.0, a))
      | inr b ↦ member_behind x xs ys ((l.members x).1 (p.0, b))
    ],
  );
}

-- ---- of a store
pub lists_topups : (records found : List Entry) → ListsHeld (IsKeptAs TopUps) records found → ListsTopUps records found
lists_topups records found h = record {
  rising = h.rising;
  members = λ x. (
    λ m. (let p = (h.members x).0 m in (p.0, (topups_kept x.key).1 p.1)),
    λ p. (h.members x).1 (p.0, (topups_kept x.key).0 p.1),
  );
}

pub lists_withdrawals : (records xs ys zs : List Entry) → ListsHeld (IsKeptAs WithdrawnReadings) records xs → ListsHeld (IsKeptAs WithdrawnAssignments) records ys → ListsHeld (IsKeptAs WithdrawnTopUps) records zs → ListsWithdrawals records (xs ++ (ys ++ zs))
lists_withdrawals records xs ys zs a b c =
    let later = held_both (IsKeptAs WithdrawnAssignments) (IsKeptAs WithdrawnTopUps) IsKeptLater records ys zs (λ x. (λ h. h, λ h. h)) (before_by_kind WithdrawnAssignments WithdrawnTopUps (omega arith)) b c in
    held_both (IsKeptAs WithdrawnReadings) IsKeptLater IsWithdrawal records xs (ys ++ zs) withdrawals_kept
    (λ x y of late. elim late [
      | inl i ↦ before_by_kind WithdrawnReadings WithdrawnAssignments (omega arith) x y of i
      | inr j ↦ before_by_kind WithdrawnReadings WithdrawnTopUps (omega arith) x y of j
    ]) a later

-- ---- of what a call answers
module _ {Z F : Type 0} where
  -- a list of the records behind a statement that changes nothing
  pub held_if : (P Q : List Entry → List Entry → Type 0) → ((records found : List Entry) → P records found → Q records found) → (before after : List Entry) → after ≡ before
      → (r : Result (Vec Entry Z) F) → IfOk r (λ found. P after found.items) → IfOk r (λ found. Q before found.items)
  held_if P Q gives before after same (Ok v) h = subst (λ records. Q records v.items) same (gives after v.items h)
  held_if P Q gives before after same (Err e) h = tt

  -- the three lists in a row
  pub withdrawals_if : (records xs ys zs : List Entry) (r : Result (Vec Entry Z) F) → ListsHeld (IsKeptAs WithdrawnReadings) records xs → ListsHeld (IsKeptAs WithdrawnAssignments) records ys → ListsHeld (IsKeptAs WithdrawnTopUps) records zs
      → IfOk r (λ all. all.items ≡ xs ++ (ys ++ zs)) → IfOk r (λ all. ListsWithdrawals records all.items)
  withdrawals_if records xs ys zs (Ok v) a b c is = subst (ListsWithdrawals records) (sym is) (lists_withdrawals records xs ys zs a b c)
  withdrawals_if records xs ys zs (Err e) a b c is = tt
