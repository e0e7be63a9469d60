-- Outside an upload, what is held is what was committed last.
use Rattle.std.proofs.Common.{◌≡◌, ◌⊎◌, inl, inr, ℕ, List, Bool, IsTrue, true, false, cond, Some, None, refl, sym, subst, ap, ◌∙◌}
use Rattle.std.proofs.lemmas.Bool.{cases_Bool}
use Rattle.sqlite_trees.specs.View.{doubt}
use Rattle.sqlite.specs.Effect.{Database}
use Rattle.sqlite.specs.State.{State, HasCleanDisk, IsUnchanged, IsRolledBack, Survives}
use Rattle.pw_shelf.specs.Left.{LeavesNoMore, LeavesNoMoreOr}
use Rattle.pw_model.specs.declared.records.Entry.{Entry}
use Rattle.pw_shelf.specs.State.{IsWithRecord, committed}
use Rattle.pw_model.specs.Shelf.{ShelfContent}
use Rattle.pw_store.specs.Kept.{IsSinceBase, IsIdle, written_of, begun_of, left_of, state_of}
use Rattle.pw_store.specs.Content.{content_of}
use Rattle.pw_store.specs.Waiting.{NoneWaits, with_waiting}
use Rattle.pw_store.specs.declared.waiting.WaitingPoint.{WaitingPoint}
use Rattle.pw_store.specs.inner.Changing.{Makes}
use Rattle.pw_store.proofs.Waited.{with_none}

-- a connection that isn't clean shows as shut
abbrev pub ShutIfDirty : State → Type 0
ShutIfDirty s = s.is_clean ≡ false → s.is_open ≡ false

clean_if : (b : Bool) → b ≡ true → doubt b ≡ 0
unfolding doubt
clean_if true e = refl
clean_if false e = absurd (let bad : true ≡ false = sym e in cc)

clean_if_open : (s : State) → ShutIfDirty s → s.is_open ≡ true → HasCleanDisk s
clean_if_open s law live = elim (cases_Bool s.is_clean) [
  | inl up ↦ clean_if s.is_clean up
  | inr down ↦ absurd (let bad : true ≡ false = sym live ∙ law down in cc)
]

pub not_begun : (begun : Bool) (c : ShelfContent) → begun_of begun c ≡ None → begun ≡ false
not_begun true c e = absurd (let bad : Some c ≡ None = e in cc)
not_begun false c e = refl

pub idle_held : (s base : State) (begun : Bool) → ShutIfDirty s → IsSinceBase s base → IsIdle s begun → begun ≡ false → written_of s base ≡ content_of base.committed.trees
idle_held s base begun law since idle none = elim (cases_Bool s.is_open) [
  | inl live ↦ (let clean = clean_if_open s law live in
      ap (λ b. content_of (cond b s.now.trees base.committed.trees)) live ∙ ap content_of (idle clean live none ∙ since clean live))
  | inr shut ↦ ap (λ b. content_of (cond b s.now.trees base.committed.trees)) shut
]

-- ---- a call that fails outside an upload
held_shut : (s base : State) → s.is_open ≡ false → written_of s base ≡ content_of base.committed.trees
held_shut s base shut = ap (λ b. content_of (cond b s.now.trees base.committed.trees)) shut

pub held_open : (s base : State) → s.is_open ≡ true → written_of s base ≡ content_of s.now.trees
held_open s base live = ap (λ b. content_of (cond b s.now.trees base.committed.trees)) live

failed_held : (old new base : State) (begun : Bool) → ShutIfDirty old → IsSinceBase old base → IsIdle old begun → begun ≡ false → IsUnchanged old new ⊎ IsRolledBack old new → written_of new base ≡ content_of base.committed.trees
failed_held old new base begun law since idle none (inl same) =
    let clean = clean_if_open old law same.0.was_open in
    held_open new base same.0.is_open ∙ ap (λ (d : Database). content_of d.trees) same.0.now_is ∙ ap content_of (idle clean same.0.was_open none ∙ since clean same.0.was_open)
failed_held old new base begun law since idle none (inr back) = elim (cases_Bool new.is_open) [
  | inl live ↦ (let was = back.was_open live in
      let clean = clean_if_open old law was in
      held_open new base live ∙ ap (λ (d : Database). content_of d.trees) (back.undone live).0 ∙ ap content_of (since clean was))
  | inr shut ↦ held_shut new base shut
]

pub failed_same : (waiting : List WaitingPoint) (old new base : State) (begun : Bool) → ShutIfDirty old → IsSinceBase old base → IsIdle old begun → (IsUnchanged old new ⊎ IsRolledBack old new) → begun_of begun (content_of base.committed.trees) ≡ None
    → with_waiting waiting (written_of new base) ≡ with_waiting waiting (written_of old base)
failed_same waiting old new base begun law since idle how none =
    let not = not_begun begun _ none in
    ap (with_waiting waiting) (failed_held old new base begun law since idle not how ∙ sym (idle_held old base begun law since idle not))

pub written_same : (old new base : State) → IsUnchanged old new → written_of new base ≡ written_of old base
written_same old new base same = held_open new base same.0.is_open ∙ ap (λ (d : Database). content_of d.trees) same.0.now_is ∙ sym (held_open old base same.0.was_open)

-- ---- what a crash leaves
pub left_no_more : (old new : State) → Survives old new (λ _. ⊥) → HasCleanDisk new → LeavesNoMore (left_of old) (left_of new)
left_no_more old new s clean c l = elim (s.crash clean l.0 l.1) [ inl may ↦ (l.0, may, l.2) | inr none ↦ absurd none ]

pub left_or_held : (old new base : State) → IsTrue old.is_open → Survives old new (λ db. db ≡ old.now.trees) → HasCleanDisk new → LeavesNoMoreOr (written_of old base) (left_of old) (left_of new)
left_or_held old new base live s clean c l = elim (s.crash clean l.0 l.1) [
  | inl may ↦ inl (l.0, may, l.2)
  | inr is ↦ inr (sym l.2 ∙ ap content_of is ∙ sym (held_open old base live))
]

-- ---- closing
pub closed : (waiting : List WaitingPoint) (s base : State) (begun : Bool) (f fa t : ℕ) → IsSinceBase s base → IsIdle s begun → NoneWaits begun waiting → HasCleanDisk s → IsTrue s.is_open
    → content_of s.committed.trees ≡ committed (state_of waiting s base begun f fa t)
closed waiting s base true f fa t since idle none clean live = ap content_of (since clean live)
closed waiting s base false f fa t since idle none clean live =
    ap content_of (sym (idle clean live refl)) ∙ sym (held_open s base live) ∙ sym (with_none waiting (written_of s base) (none refl))

-- ---- within an upload the tables are what is written
pub with_held : (old new base : State) (e : Entry) → IsTrue old.is_open → IsTrue new.is_open → IsWithRecord (content_of old.now.trees) e (content_of new.now.trees) → IsWithRecord (written_of old base) e (written_of new base)
with_held old new base e was live h = subst (λ c. IsWithRecord c e (written_of new base)) (sym (held_open old base was)) (subst (IsWithRecord (content_of old.now.trees) e) (sym (held_open new base live)) h)

pub held_made : (old new base : State) (made : ShelfContent → ShelfContent) → Makes made old new → written_of new base ≡ made (written_of old base)
held_made old new base made m = held_open new base m.shows.is_open ∙ m.content ∙ ap made (sym (held_open old base m.shows.was_open))

-- what was just committed can be left
pub left_stays : (old new base : State) → IsTrue old.is_open → new.may_leave old.now.trees → left_of new (written_of old base)
left_stays old new base live may = (old.now.trees, may, sym (held_open old base live))
