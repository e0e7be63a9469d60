-- The records of a kind that a set has: there is one list of them.
use Rattle.std.proofs.Common.{◌≡◌, ◌⊎◌, List, [], ◌∷◌, inl, inr, subst, sym}
use Rattle.pw_model.specs.declared.records.Key.{Key}
use Rattle.pw_model.specs.declared.records.Key.TheVariants as key
use Rattle.pw_model.specs.declared.records.Entry.{Entry}
use Rattle.pw_model.specs.Counting.{Member}
use Rattle.pw_model.specs.Kinds.{IsAssignment, IsTopUp, IsWithdrawal, ListsHeld}
use Rattle.pw_model.specs.Lists.{IsInOrder}
use Rattle.pw_model.specs.Same.{entry_order}
use Rattle.pw_model.specs.inner.Search.{AreSorted}
use Rattle.pw_model.proofs.EntryOrder.{before-all, entry-strict}
use Rattle.pw_model.proofs.Existence.{sorted-there_is}
use Rattle.pw_model.proofs.InOrder.{before-member, lists-one}

-- ---- whether a key is of the kind
pub assignment-known : (k : Key) → IsAssignment k ⊎ (IsAssignment k → ⊥)
assignment-known (key.Reading m r t) = inr (λ h. h)
assignment-known (key.Assignment m t) = inl tt
assignment-known (key.TopUp r) = inr (λ h. h)
assignment-known (key.Withdrawal n) = inr (λ h. h)

pub topup-known : (k : Key) → IsTopUp k ⊎ (IsTopUp k → ⊥)
topup-known (key.Reading m r t) = inr (λ h. h)
topup-known (key.Assignment m t) = inr (λ h. h)
topup-known (key.TopUp r) = inl tt
topup-known (key.Withdrawal n) = inr (λ h. h)

pub withdrawal-known : (k : Key) → IsWithdrawal k ⊎ (IsWithdrawal k → ⊥)
withdrawal-known (key.Reading m r t) = inr (λ h. h)
withdrawal-known (key.Assignment m t) = inr (λ h. h)
withdrawal-known (key.TopUp r) = inr (λ h. h)
withdrawal-known (key.Withdrawal n) = inl tt

-- ---- the records of the kind among those in order
module _ (Of : Key → Type 0) (known : (k : Key) → Of k ⊎ (Of k → ⊥)) where
  part-there_is : (s : List Entry) → IsInOrder entry_order s → (t : List Entry) × ListsHeld Of s t
  part-there_is [] r = ([], record { rising = tt; members = λ e. (λ m. absurd m, λ p. absurd p.0) })
  part-there_is (e ∷ s) r =
      let w : (t : List Entry) × ListsHeld Of s t = part-there_is s r.1 in
      elim (known e.key) [
        | inl y ↦ (
          e ∷ w.0,
          record {
            rising = (before-all entry_order e w.0 (λ x m. before-member entry_order e x s r.0 ((w.1.members x).0 m).0), w.1.rising);
            members = λ x. (
              λ m. elim m [
                | inl i ↦ (inl i, (let P : Entry → Type 0 = λ z. Of z.key in subst P (sym i) y))
                | inr k ↦ (let q = (w.1.members x).0 k in (inr q.0, q.1))
              ],
              λ p. elim p.0 [ inl i ↦ inl i | inr k ↦ inr ((w.1.members x).1 (k, p.1)) ],
            );
          },
        )
        | inr n ↦ (
          w.0,
          record {
            rising = w.1.rising;
            members = λ x. (
              λ m. (let q = (w.1.members x).0 m in (inr q.0, q.1)),
              λ p. elim p.0 [
                | inl i ↦ absurd (n (let P : Entry → Type 0 = λ z. Of z.key in subst P i p.1))
                | inr k ↦ (w.1.members x).1 (k, p.1)
              ],
            );
          },
        )
      ]

  -- ---- those of a set
  pub held-there_is : (s : List Entry) → (t : List Entry) × ListsHeld Of s t
  held-there_is s =
      let sorted : (u : List Entry) × AreSorted s u = sorted-there_is s in
      let w : (t : List Entry) × ListsHeld Of sorted.0 t = part-there_is sorted.0 sorted.1.rising in (
        w.0,
        record {
          rising = w.1.rising;
          members = λ e. (
            λ m. (let q = (w.1.members e).0 m in ((sorted.1.members e).0 q.0, q.1)),
            λ p. (w.1.members e).1 ((sorted.1.members e).1 p.0, p.1),
          );
        },
      )

pub held-one : (Of : Key → Type 0) (s t u : List Entry) → ListsHeld Of s t → ListsHeld Of s u → t ≡ u
held-one Of s t u a b = lists-one entry_order entry-strict (λ e. Member e s × Of e.key) (λ e. Member e s × Of e.key) (λ e. (λ h. h, λ h. h)) t u a b
