-- Questions to a book, one behind another.
use Rattle.std.proofs.Common.{ℕ, ◌∙◌, refl, arith, Result}
use Rattle.pw_shelf.specs.declared.shelf.Shelf.{Ghosts}
use Rattle.pw_book.specs.declared.book.Book.{Book}
use Rattle.pw_book.proofs.Chains.{Joins, kept-then}
use Rattle.pw_book.specs.declared.fault.BookFault.{BookFault}
use Rattle.pw_book.specs.Questions.{IsQuestion, failures_asked}
use Rattle.pw_report.specs.Reports.{IsAsked}

module _ {S : Type 0} (shelf : Ghosts S) where
  -- none
  pub asked-none : (yet : (s : S) → shelf.same_store s s) (a : Book S shelf) → IsAsked shelf 0 a a
  asked-none yet a = record {
    content = λ k. refl;
    kept = record { upload = refl; counts = record { failures = omega arith; failed_abandons = refl }; left = λ k c l. l; clean = λ k. k; store = yet a.shelf };
    shut = refl;
    office = refl;
    zone = refl;
    limit = refl;
  }

  -- behind questions that told no failure
  pub asked-then : (joined : Joins shelf.same_store) (told : ℕ) (a b c : Book S shelf) → IsAsked shelf 0 a b → IsAsked shelf told b c → IsAsked shelf told a c
  asked-then joined told a b c f g = record {
    content = λ k. g.content k ∙ f.content (g.kept.clean k);
    kept = kept-then shelf.state shelf.left shelf.clean shelf.same_store joined told a.shelf b.shelf c.shelf f.kept g.kept;
    shut = g.shut ∙ f.shut;
    office = g.office ∙ f.office;
    zone = g.zone ∙ f.zone;
    limit = g.limit ∙ f.limit;
  }

  -- one question
  pub asked-once : {T : Type 0} (answer : Result T BookFault) (a b : Book S shelf) → IsQuestion shelf answer a b → IsAsked shelf (failures_asked answer) a b
  asked-once answer a b q = record { content = q.asked.content; kept = q.asked.kept; shut = q.shut; office = q.office; zone = q.zone; limit = q.limit }
