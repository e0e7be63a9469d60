-- How many records are held, and what is remembered of a register, as the store keeps it beside the connection.
use Rattle.std.proofs.Common.{◌≡◌, ◌⊎◌, ◌+◌, ◌<◌, inl, inr, ℕ, zero, suc, Bool, IsTrue, true, false, cond, length, List, Option, None, refl, sym, ap, subst, ◌∙◌, arith}
use Rattle.std.proofs.lemmas.Bool.{cases_Bool}
use Rattle.sqlite.specs.Tree.{Trees}
use Rattle.sqlite.specs.Effect.{Database}
use Rattle.sqlite.specs.State.{State, HasCleanDisk, IsUnchanged, IsRolledBack, Shows, Survives}
use Rattle.pw_model.specs.declared.records.Entry.{Entry}
use Rattle.pw_model.specs.Office.{most_records}
use Rattle.pw_model.specs.Shelf.{ShelfContent}
use Rattle.pw_shelf.specs.State.{IsWithRecord}
use Rattle.pw_shelf.proofs.InOrder.{inserted-length}
use Rattle.pw_schema.proofs.Outcomes.{early}
use Rattle.pw_schema.specs.Fresh.{IsNew}
use Rattle.pw_store.specs.declared.changes.Change.{Change}
use Rattle.pw_store.specs.declared.changes.Change.TheVariants.{TakePoint, PutPoint, PutFour, TakeStart, PutStart, TakeTotal, SetTotal, PutTotal}
use Rattle.pw_store.specs.Content.{content_of, records_of}
use Rattle.pw_store.specs.Kept.{BaseIsCounted, IsIdle, IsInside, IsSinceBase, NowIsKnown, written_of}
use Rattle.pw_store.specs.Frontier.{IsFrontier}
use Rattle.pw_store.specs.declared.frontier.Frontier.{Frontier}
use Rattle.pw_store.specs.inner.Changing.{Makes, changed}
use Rattle.pw_store.specs.inner.Opened.{IsStanding}
use Rattle.pw_store.proofs.Fresh.{fresh_records}
use Rattle.pw_store.proofs.Inside.{held_live}
use Rattle.pw_store.proofs.InTurn.{trees_same}

abbrev pub records_in : Trees → ℕ
records_in db = length (records_of db)

-- ---- the answer
pub inside_counted : (s base : State) (within : ℕ) → IsInside s → (frontier : Option Frontier) → NowIsKnown s within frontier → s.in_transaction ≡ true → HasCleanDisk s → within ≡ length (written_of s base).records
inside_counted s base within inside frontier known mode clean = sym (ap length (held_live s base (inside clean mode)) ∙ (known clean).0 mode)

pub outside_counted : (s base : State) (held : ℕ) → IsSinceBase s base → BaseIsCounted s held base → (IsTrue s.is_open → s.now ≡ s.committed) → HasCleanDisk s → held ≡ length (written_of s base).records
outside_counted s base held since counted settled clean = sym (elim (cases_Bool s.is_open) [
  | inl live ↦ ap length (held_live s base live) ∙ ap (λ (d : Database). records_in d.trees) (settled live) ∙ ap records_in (since clean live) ∙ counted clean
  | inr shut ↦ ap (λ b. records_in (cond b s.now.trees base.committed.trees)) shut ∙ counted clean
])

-- ---- the calls
changed_records : (change : Change) (n : ℕ) (c : ShelfContent) → (changed change n c).records ≡ c.records
changed_records (TakePoint m r t) n c = refl
changed_records (PutPoint p) zero c = refl
changed_records (PutPoint p) (suc n) c = refl
changed_records (PutFour p q r s) zero c = refl
changed_records (PutFour p q r s) (suc n) c = refl
changed_records (TakeStart m t) n c = refl
changed_records (PutStart m t o) n c = refl
changed_records (TakeTotal k) n c = refl
changed_records (SetTotal k a) zero c = refl
changed_records (SetTotal k a) (suc n) c = refl
changed_records (PutTotal k a) n c = refl

module _ (old new : State) where
  -- it changes nothing, or fails, or undoes the transaction: then nothing is remembered
  pub counted_failed : {P : Trees → Type 0} (within : ℕ) (frontier : Option Frontier) → NowIsKnown old within frontier → Survives old new P → (HasCleanDisk new → IsUnchanged old new ⊎ IsRolledBack old new) → NowIsKnown new within None
  counted_failed within frontier was s how clean = (
    λ mode. elim (how clean) [
      | inl same ↦ ap records_in (trees_same old new same) ∙ (was (early old new s clean)).0 (sym same.0.mode ∙ mode)
      | inr back ↦ absurd (let bad : true ≡ false = sym mode ∙ back.autocommit in cc)
    ],
    λ live. tt,
  )

  -- it changes nothing, and this is known of a register then
  pub counted_told : (within : ℕ) (before after : Option Frontier) → NowIsKnown old within before → Survives old new (λ _. ⊥) → (HasCleanDisk new → IsUnchanged old new) → (HasCleanDisk new → IsFrontier after (records_of old.now.trees)) → NowIsKnown new within after
  counted_told within before after was s same told clean = (
    (counted_failed within before was s (λ clean. inl (same clean)) clean).0,
    λ live. subst (λ (db : Trees). IsFrontier after (records_of db)) (sym (trees_same old new (same clean))) (told clean),
  )

  pub counted_same : (within : ℕ) (frontier : Option Frontier) → NowIsKnown old within frontier → Survives old new (λ _. ⊥) → (HasCleanDisk new → IsUnchanged old new) → NowIsKnown new within frontier
  counted_same within frontier was s same = counted_told within frontier frontier was s same (λ clean. (was (early old new s clean)).1 (same clean).0.was_open)

  -- a transaction begins
  pub counted_begun : (base : State) (held within : ℕ) (frontier : Option Frontier) (begun : Bool) → BaseIsCounted old held base → NowIsKnown old within frontier → IsSinceBase old base → IsIdle old begun → begun ≡ false → Survives old new (λ _. ⊥)
      → (HasCleanDisk new → Shows old new old.now old.committed true) → NowIsKnown new held frontier
  counted_begun base held within frontier begun counted was since idle none s is clean =
      let before = early old new s clean in
      let live = (is clean).was_open in
      let same = (is clean).now_is in (
        λ mode. ap (λ (d : Database). records_in d.trees) same ∙ ap records_in (idle before live none ∙ since before live) ∙ counted before,
        λ _. subst (λ (d : Database). IsFrontier frontier (records_of d.trees)) (sym same) ((was before).1 live),
      )

  -- it ends, and keeps what was written
  pub counted_settled : {P : Trees → Type 0} (within : ℕ) (frontier : Option Frontier) → NowIsKnown old within frontier → Survives old new P → (HasCleanDisk new → Shows old new old.now old.now false) → NowIsKnown new within frontier
  counted_settled within frontier was s is clean = (
    λ mode. absurd (let bad : true ≡ false = sym mode ∙ (is clean).mode in cc),
    λ _. subst (λ (d : Database). IsFrontier frontier (records_of d.trees)) (sym (is clean).now_is) ((was (early old new s clean)).1 (is clean).was_open),
  )

  -- what it has written is committed
  pub counted_committed : {P : Trees → Type 0} (within : ℕ) (frontier : Option Frontier) → NowIsKnown old within frontier → old.in_transaction ≡ true → Survives old new P → (HasCleanDisk new → Shows old new old.now old.now false) → HasCleanDisk new
      → records_in new.committed.trees ≡ within
  counted_committed within frontier was mode s is clean = ap (λ (d : Database). records_in d.trees) (is clean).committed_is ∙ (was (early old new s clean)).0 mode

  -- a record is added
  pub counted_added : (base : State) (within : ℕ) (e : Entry) (frontier : Option Frontier) → NowIsKnown old within frontier → old.in_transaction ≡ true → IsInside old → Survives old new (λ _. ⊥) → (HasCleanDisk old → length (written_of old base).records < most_records)
      → (HasCleanDisk new → IsWithRecord (content_of old.now.trees) e (content_of new.now.trees)) → HasCleanDisk new → (records_in new.now.trees ≡ within + 1) × (within < most_records)
  counted_added base within e frontier was mode inside s room added clean =
      let before = early old new s clean in
      let one = inserted-length e (records_of old.now.trees) (records_of new.now.trees) (added clean).records in
      let n = (was before).0 mode in
      let held = ap length (held_live old base (inside before mode)) in
      let few = room before in
      (omega (arith, one, n), omega (arith, few, held, n))

  -- points, starts or totals are changed
  pub counted_changed : (within : ℕ) (change : Change) (n : ℕ) (frontier : Option Frontier) → NowIsKnown old within frontier → old.in_transaction ≡ true → Survives old new (λ _. ⊥) → (HasCleanDisk new → Makes (changed change n) old new) → NowIsKnown new within frontier
  counted_changed within change n frontier was mode s made clean =
      let before = early old new s clean in
      let same = ap (λ (c : ShelfContent). c.records) (made clean).content ∙ changed_records change n (content_of old.now.trees) in (
        λ _. ap length same ∙ (was before).0 mode,
        λ _. subst (IsFrontier frontier) (sym same) ((was before).1 (made clean).shows.was_open),
      )

-- what is remembered is the connection as it is now
pub counted_snapshot : (s at : State) (held : ℕ) → at ≡ s → (HasCleanDisk s → records_in s.committed.trees ≡ held) → BaseIsCounted s held at
counted_snapshot s at held is counted = subst (BaseIsCounted s held) (sym is) counted

-- ---- an opening
pub counted_fresh : (body : List ℕ) (s : State) → IsNew body s.now → records_in s.now.trees ≡ 0
counted_fresh body s new = ap length (fresh_records body s.now new)

-- an open connection on which nothing waits
pub counted_standing : (s at : State) (held : ℕ) → at ≡ s → (HasCleanDisk s → IsStanding s) → (HasCleanDisk s → records_in s.now.trees ≡ held) → BaseIsCounted s held at
counted_standing s at held is opened counted = counted_snapshot s at held is (λ clean. ap (λ (d : Database). records_in d.trees) (sym (opened clean).settled) ∙ counted clean)
