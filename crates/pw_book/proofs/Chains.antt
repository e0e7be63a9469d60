-- Calls of a shelf behind another.
use Rattle.std.proofs.Common.{ℕ, ◌∙◌, refl, sym, subst, arith}
use Rattle.pw_tariff.specs.Office.{OfficeRules}
use Rattle.pw_model.specs.Shelf.{IsTrueContent, ShelfContent}
use Rattle.pw_shelf.specs.Calls.{GoesOn}
use Rattle.pw_shelf.specs.State.{State, CountsFailures}
use Rattle.pw_shelf.specs.declared.shelf.Shelf.{Ghosts}
use Rattle.pw_book.specs.Asking.{IsOnlyAsked}

-- what stands of two steps stands of both together
module _ {S : Type 0} where
  abbrev pub Joins : (S → S → Type 0) → Type 0
  Joins r = (a b c : S) → r a b → r b c → r a c

counts-then : (told : ℕ) (a b c : State) → CountsFailures 0 a b → CountsFailures told b c → CountsFailures told a c
counts-then told a b c f g = record { failures = let h = f.failures in let k = g.failures in omega (arith, h, k); failed_abandons = g.failed_abandons ∙ f.failed_abandons }

-- behind calls that told no failure
module _ {S : Type 0} (state : S → State) (leaves : S → ShelfContent → Type 0) (is_clean : S → Type 0) (is_same : S → S → Type 0) (joined : Joins is_same) (told : ℕ) (a b c : S) where
  pub kept-then : GoesOn state leaves is_clean is_same 0 a b → GoesOn state leaves is_clean is_same told b c → GoesOn state leaves is_clean is_same told a c
  kept-then f g = record {
    upload = g.upload ∙ f.upload;
    counts = counts-then told (state a) (state b) (state c) f.counts g.counts;
    left = λ k d l. f.left (g.clean k) d (g.left k d l);
    clean = λ k. f.clean (g.clean k);
    store = joined a b c f.store g.store;
  }

-- no call at all
module _ {S : Type 0} (state : S → State) (leaves : S → ShelfContent → Type 0) (is_clean : S → Type 0) (is_same : S → S → Type 0) (yet : (s : S) → is_same s s) (a : S) where
  pub kept-none : GoesOn state leaves is_clean is_same 0 a a
  kept-none = record { upload = refl; counts = record { failures = omega arith; failed_abandons = refl }; left = λ k c l. l; clean = λ k. k; store = yet a }

pub asked-then : {S : Type 0} (shelf : Ghosts S) (joined : Joins shelf.same_store) (told : ℕ) (a b c : S) → IsOnlyAsked shelf 0 a b → IsOnlyAsked shelf told b c → IsOnlyAsked shelf told a c
asked-then shelf joined told a b c f g = record {
  content = λ k. g.content k ∙ f.content (g.kept.clean k);
  kept = kept-then shelf.state shelf.left shelf.clean shelf.same_store joined told a b c f.kept g.kept;
}

pub asked-none : {S : Type 0} (shelf : Ghosts S) (yet : (s : S) → shelf.same_store s s) (a : S) → IsOnlyAsked shelf 0 a a
asked-none shelf yet a = record {
  content = λ k. refl;
  kept = kept-none shelf.state shelf.left shelf.clean shelf.same_store yet a;
}

-- a content that was only asked is as true as before
pub asked-true : {S : Type 0} (shelf : Ghosts S) (office : OfficeRules) (a b : S) → (shelf.clean a → IsTrueContent office (shelf.state a).content) → IsOnlyAsked shelf 0 a b → shelf.clean b → IsTrueContent office (shelf.state b).content
asked-true shelf office a b t h k = let T : ShelfContent → Type 0 = λ d. IsTrueContent office d in subst T (sym (h.content k)) (t (h.kept.clean k))
