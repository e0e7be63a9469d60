-- What each call leaves keeps of the store that was opened, and what is left opens again.
use Rattle.std.proofs.Common.{◌≡◌, ◌⊎◌, inl, inr, ℕ, IsTrue, Bool, true, false, List, [], ◌∷◌, Option, Some, None, refl, sym, ap, subst, ◌∙◌}
use Rattle.std.specs.List.{AllByRecursion}
use Rattle.sqlite.specs.Order.{column}
use Rattle.sqlite.specs.Tree.{Trees}
use Rattle.sqlite.specs.Effect.{Database}
use Rattle.sqlite.specs.State.{State, HasCleanDisk, IsLive, IsUnchanged, IsRolledBack, Shows, Survives}
use Rattle.sqlite_catalog.proofs.ReadLemmas.{lists_once}
use Rattle.sqlite_catalog.specs.Listing.{Lists}
use Rattle.sqlite_trees.specs.Objects.{catalog_tree}
use Rattle.pw_model.specs.Counting.{Member}
use Rattle.pw_schema.specs.Tables.{IsOurs}
use Rattle.pw_schema.specs.declared.kind.StoreVersion.TheVariants.{Third}
use Rattle.pw_schema.proofs.Outcomes.{early}
use Rattle.pw_schema.specs.Rows.{number}
use Rattle.pw_store.specs.Content.{energy_in, energy_tree, payment_in, payment_tree}
use Rattle.pw_store.specs.Kept.{IsStore}
use Rattle.pw_store.specs.Left.{IsLeftOf, IsOfText, IsOldEnergy, IsOldPayment, Keeps, KeepsOpened}
use Rattle.pw_store.specs.inner.Changing.{StillKeeps}
use Rattle.pw_store.specs.Opening.{HasRows}
use Rattle.pw_store.specs.inner.Opened.{IsOpened, IsStanding}
use Rattle.pw_tariff.specs.Office.{OfficeRules}
use Rattle.pw_store.proofs.KeyedRows.{row_told}
use Rattle.pw_store.proofs.Others.{same_total-decides}
use Rattle.pw_shelf.specs.Changes.{same_total}

pub rows_of : (db : Database) → IsStore db → HasRows Third db.trees
rows_of db store = record {
  rows = λ k at. store.rows k;
  once = store.once;
  points = record { each = store.points.each; once = store.points.once };
  starts = record { each = store.starts.each; once = store.starts.once };
  energies = record { rows = record { each = store.energies.each; once = store.energies.once }; none = store.old };
  payments = record { each = store.payments.each; once = store.payments.once };
}

-- ---- a store keeps itself
pub all_members : {X : Type 0} (P : X → Type 0) (xs : List X) → ((x : X) → Member x xs → P x) → AllByRecursion P xs
all_members P [] each = tt
all_members P (x ∷ xs) each = (each x (inl refl), all_members P xs (λ y m. each y (inr m)))

told_something : {A : Type 0} (o : Option A) (a : A) → o ≡ Some a → o ≡ None → ⊥
told_something o a some none = let bad : Some a ≡ None = sym some ∙ none in cc

itself : (db : Database) → IsStore db → Keeps db.trees db.trees
itself db store = record {
  listed = refl;
  office = refl;
  energies = all_members (IsOldEnergy db.trees) (db.trees energy_tree)
      (λ r m zero. told_something _ _ (row_told same_total same_total-decides energy_in (λ x. number (column x 5)) (db.trees energy_tree) r store.energies.once m));
  payments = all_members (IsOldPayment db.trees) (db.trees payment_tree)
      (λ r m zero. told_something _ _ (row_told same_total same_total-decides payment_in (λ x. number (column x 2)) (db.trees payment_tree) r store.payments.once m));
}

-- ---- a store that is opened: open, with nothing that waits
pub opened_keeps : (s : State) → IsLive s → IsTrue s.is_open → s.now ≡ s.committed → IsStore s.now → ((db : Trees) → IsTrue s.is_open → s.may_leave db → db ≡ s.committed.trees) → KeepsOpened s s
opened_keeps s live open_now settled store law clean =
    let mine = itself s.now store in
    record {
      ours = λ found sound listed.
          (let lists : Lists (s.now.trees catalog_tree) found.schema = subst (λ rows. Lists rows found.schema) listed sound.lists in
          subst IsOurs (lists_once (s.now.trees catalog_tree) s.now.schema found.schema (live open_now).0.lists lists) store.ours);
      now = λ _. mine;
      committed = λ _. subst (λ (d : Database). Keeps s.now.trees d.trees) settled mine;
      left = λ db may.
          (let is : s.now.trees ≡ db = ap (λ (d : Database). d.trees) settled ∙ sym (law db open_now may) in
          (subst (HasRows Third) is (rows_of s.now store), subst (Keeps s.now.trees) is mine));
    }

-- where a shelf is made of it
pub standing_keeps : (s at : State) → at ≡ s → IsLive s → (HasCleanDisk s → IsStanding s) → ((db : Trees) → IsTrue s.is_open → s.may_leave db → db ≡ s.committed.trees) → KeepsOpened s at
standing_keeps s at is live stands law = subst (KeepsOpened s) (sym is) (λ clean. let it = stands clean in opened_keeps s live it.is_open it.settled it.store law clean)

pub opening_text : (s at : State) (office : OfficeRules) (body : List ℕ) (before : Database) → at ≡ s → IsOpened office body before s → IsOfText office body at.now.trees
opening_text s at office body before is it = subst (λ (o : State). IsOfText office body o.now.trees) (sym is) (it.may_open.kept, (it.may_open.named, it.may_open.plain))

-- ---- a call
module _ (old new opened : State) (was : KeepsOpened old opened) where
  left_before : Survives old new (λ _. ⊥) → HasCleanDisk new → (db : Trees) → new.may_leave db → HasRows Third db × Keeps opened.now.trees db
  left_before s clean db may = (was (early old new s clean)).left db (elim (s.crash clean db may) [ inl before ↦ before | inr none ↦ absurd none ])

  shown : (now committed : Database) (mode : Bool) → HasCleanDisk old → Shows old new now committed mode → Keeps opened.now.trees now.trees → Keeps opened.now.trees committed.trees
      → ((db : Trees) → new.may_leave db → HasRows Third db × Keeps opened.now.trees db) → IsLeftOf new opened
  shown now committed mode clean is n c left = record {
    ours = (was clean).ours;
    now = λ _. subst (λ (d : Database). Keeps opened.now.trees d.trees) (sym is.now_is) n;
    committed = λ _. subst (λ (d : Database). Keeps opened.now.trees d.trees) (sym is.committed_is) c;
    left = left;
  }

  ended : HasCleanDisk old → IsUnchanged old new ⊎ IsRolledBack old new → ((db : Trees) → new.may_leave db → HasRows Third db × Keeps opened.now.trees db) → IsLeftOf new opened
  ended clean (inl same) left = shown old.now old.committed old.in_transaction clean same.0 ((was clean).now same.0.was_open) ((was clean).committed same.0.was_open) left
  ended clean (inr back) left = record {
    ours = (was clean).ours;
    now = λ live. subst (λ (d : Database). Keeps opened.now.trees d.trees) (sym (back.undone live).0) ((was clean).committed (back.was_open live));
    committed = λ live. subst (λ (d : Database). Keeps opened.now.trees d.trees) (sym (back.undone live).1) ((was clean).committed (back.was_open live));
    left = left;
  }

  -- it changes nothing, or fails, or undoes the transaction
  pub keeps_same : Survives old new (λ _. ⊥) → (HasCleanDisk new → IsUnchanged old new) → KeepsOpened new opened
  keeps_same s same clean = ended (early old new s clean) (inl (same clean)) (left_before s clean)

  pub keeps_failed : Survives old new (λ _. ⊥) → (HasCleanDisk new → IsUnchanged old new ⊎ IsRolledBack old new) → KeepsOpened new opened
  keeps_failed s how clean = ended (early old new s clean) (how clean) (left_before s clean)

  pub keeps_undone : Survives old new (λ _. ⊥) → (HasCleanDisk new → IsRolledBack old new) → KeepsOpened new opened
  keeps_undone s back clean = ended (early old new s clean) (inr (back clean)) (left_before s clean)

  -- a transaction begins
  pub keeps_begun : Survives old new (λ _. ⊥) → (HasCleanDisk new → Shows old new old.now old.committed true) → KeepsOpened new opened
  keeps_begun s is clean =
      let before = early old new s clean in
      shown old.now old.committed true before (is clean) ((was before).now (is clean).was_open) ((was before).committed (is clean).was_open) (left_before s clean)

  -- something is written
  pub keeps_written : Survives old new (λ _. ⊥) → (HasCleanDisk new → Shows old new new.now old.committed true) → (HasCleanDisk new → StillKeeps old.now.trees new.now.trees) → KeepsOpened new opened
  keeps_written s is keeps clean =
      let before = early old new s clean in
      shown new.now old.committed true before (is clean) (keeps clean opened.now.trees ((was before).now (is clean).was_open)) ((was before).committed (is clean).was_open) (left_before s clean)

  -- what was written is committed, or may be found whole after a crash
  left_or_whole : Survives old new (λ db. db ≡ old.now.trees) → HasCleanDisk new → IsTrue old.is_open → IsStore old.now → (db : Trees) → new.may_leave db → HasRows Third db × Keeps opened.now.trees db
  left_or_whole s clean live store db may =
      let before = early old new s clean in
      elim (s.crash clean db may) [
        | inl left ↦ (was before).left db left
        | inr is ↦ (subst (HasRows Third) (sym is) (rows_of old.now store), subst (Keeps opened.now.trees) (sym is) ((was before).now live))
      ]

  pub keeps_committed : Survives old new (λ db. db ≡ old.now.trees) → (HasCleanDisk old → IsTrue old.is_open → IsStore old.now) → (HasCleanDisk new → Shows old new old.now old.now false) → KeepsOpened new opened
  keeps_committed s store is clean =
      let before = early old new s clean in
      let live = (is clean).was_open in
      let now = (was before).now live in
      shown old.now old.now false before (is clean) now now (left_or_whole s clean live (store before live))

  pub keeps_uncommitted : Survives old new (λ db. db ≡ old.now.trees) → (HasCleanDisk old → IsTrue old.is_open) → (HasCleanDisk old → IsTrue old.is_open → IsStore old.now) → (HasCleanDisk new → IsUnchanged old new ⊎ IsRolledBack old new) → KeepsOpened new opened
  keeps_uncommitted s live store how clean =
      let before = early old new s clean in
      ended before (how clean) (left_or_whole s clean (live before) (store before (live before)))
