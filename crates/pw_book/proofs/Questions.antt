-- One question to a book behind another.
use Rattle.std.proofs.Common.{◌≡◌, Result, Ok, IsErrOf, false, refl, sym, ◌∙◌, inl, inr}
use Rattle.std.proofs.lemmas.Bool.{cases_Bool, true≢false}
use Rattle.pw_shelf.specs.declared.shelf.Shelf.{Ghosts}
use Rattle.pw_book.specs.Questions.{IsQuestion, failures_asked}
use Rattle.pw_book.specs.declared.book.Book.{Book}
use Rattle.pw_book.specs.declared.fault.BookFault.{BookFault}
use Rattle.pw_book.specs.declared.fault.BookFault.TheVariants.{Reopen}
use Rattle.pw_book.proofs.Chains.{Joins, asked-none, asked-then}

not-failed : {T E : Type 0} (x : T) (e : E) → IsErrOf {T = T} {E = E} (Ok x) e → ⊥
not-failed x e h = cc

module _ {S : Type 0} (shelf : Ghosts S) where
  -- none was asked of an open book
  pub question-none : {T : Type 0} (yet : (s : S) → shelf.same_store s s) (x : T) (a : Book S shelf) → a.shut ≡ false → IsQuestion shelf {T = T} (Ok x) a a
  question-none yet x a o = record {
    asked = asked-none shelf yet a.shelf;
    reopen = (λ e. absurd (not-failed x Reopen e), λ s. absurd (true≢false (sym s ∙ o)));
    untouched = λ s. refl;
    shut = refl;
    office = refl;
    zone = refl;
    limit = refl;
  }

  -- a question that was answered, and another behind it
  pub question-then : {T U : Type 0} (joined : Joins shelf.same_store) (x : T) (answer : Result U BookFault) (a b c : Book S shelf) → IsQuestion shelf {T = T} (Ok x) a b → IsQuestion shelf answer b c → IsQuestion shelf answer a c
  question-then joined x answer a b c f g = record {
    asked = asked-then shelf joined (failures_asked answer) a.shelf b.shelf c.shelf f.asked g.asked;
    reopen = (λ e. sym f.shut ∙ g.reopen.0 e, λ s. g.reopen.1 (f.shut ∙ s));
    untouched = λ s. g.untouched (f.shut ∙ s) ∙ f.untouched s;
    shut = g.shut ∙ f.shut;
    office = g.office ∙ f.office;
    zone = g.zone ∙ f.zone;
    limit = g.limit ∙ f.limit;
  }

  -- a question that is answered otherwise
  pub question-told : {T U : Type 0} (x : T) (y : U) (a b : Book S shelf) → IsQuestion shelf {T = T} (Ok x) a b → IsQuestion shelf {T = U} (Ok y) a b
  question-told x y a b f = record {
    asked = f.asked;
    reopen = (λ e. absurd (not-failed y Reopen e), λ s. absurd (not-failed x Reopen (f.reopen.1 s)));
    untouched = f.untouched;
    shut = f.shut;
    office = f.office;
    zone = f.zone;
    limit = f.limit;
  }

  -- a book that answers is open
  pub answered-open : {T : Type 0} (x : T) (a b : Book S shelf) → IsQuestion shelf {T = T} (Ok x) a b → a.shut ≡ false
  answered-open x a b f = elim (cases_Bool a.shut) [ inl t ↦ absurd (not-failed x Reopen (f.reopen.1 t)) | inr n ↦ n ]
