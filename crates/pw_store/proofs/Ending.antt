-- An upload that is committed once nothing waits.
use Rattle.std.proofs.Common.{◌≡◌, inl, inr, Bool, false, List, [], None, Result, Ok, Err, OnOk, OnErr, sym, ap, ◌∙◌}
use Rattle.arrayvec.specs.ArrayVec.{ArrayVec}
use Rattle.pw_model.specs.Shelf.{ShelfContent}
use Rattle.pw_shelf.specs.Left.{LeavesNoMore, LeavesNoMoreOr}
use Rattle.pw_store.specs.Kept.{begun_of}
use Rattle.pw_store.specs.Waiting.{with_waiting}
use Rattle.pw_store.specs.declared.waiting.WaitingPoint.{WaitingPoint}

module _ {A E : Type 0} (r : Result A E) where
  pub on_ok : {P Q : Type 0} → (P → Q) → OnOk r P → OnOk r Q
  on_ok f h = go r f h
    where
      go : {P Q : Type 0} (s : Result A E) → (P → Q) → OnOk s P → OnOk s Q
      go (Ok a) f h = f h
      go (Err e) f h = tt

  pub on_err : {P Q : Type 0} → (P → Q) → OnErr r P → OnErr r Q
  on_err f h = go r f h
    where
      go : {P Q : Type 0} (s : Result A E) → (P → Q) → OnErr s P → OnErr s Q
      go (Ok a) f h = tt
      go (Err e) f h = f h

  pub with_err : {Q : Type 0} → Q → OnErr r Q
  with_err q = go r q
    where
      go : {Q : Type 0} (s : Result A E) → Q → OnErr s Q
      go (Ok a) q = tt
      go (Err e) q = q

-- nothing begun
pub none_begun : (begun : Bool) (c : ShelfContent) → begun ≡ false → begun_of begun c ≡ None
none_begun begun c is = ap (λ b. begun_of b c) is

-- what is written then is what was held
pub written_held : (waiting : List WaitingPoint) (written held : ShelfContent) → waiting ≡ [] → with_waiting waiting written ≡ held → written ≡ held
written_held waiting written held none same = ap (λ waiting. with_waiting waiting written) (sym none) ∙ same

pub held_written : (now was : ArrayVec WaitingPoint) (new old held : ShelfContent) → now ≡ was → was.items ≡ [] → new ≡ old → old ≡ held → with_waiting now.items new ≡ held
held_written now was new old held same none written is = ap (λ (waiting : ArrayVec WaitingPoint). with_waiting waiting.items new) same ∙ ap (λ waiting. with_waiting waiting new) none ∙ written ∙ is

pub leaves_held : (written held : ShelfContent) (old now new : ShelfContent → Type 0) → written ≡ held → LeavesNoMore old now → LeavesNoMoreOr written now new → LeavesNoMoreOr held old new
leaves_held written held old now new is no_more left c l = elim (left c l) [ inl may ↦ inl (no_more c may) | inr same ↦ inr (same ∙ is) ]
