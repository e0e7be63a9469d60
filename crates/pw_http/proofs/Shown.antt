-- What was answered of a page, in the words of a step.
use Rattle.std.proofs.Common.{◌≡◌, Result, Ok, Err, Bool, true, false, true≢false, ap}
use Rattle.pw_shelf.specs.declared.shelf.Shelf.{Ghosts}
use Rattle.pw_book.specs.declared.book.Book.{Book}
use Rattle.pw_book.specs.declared.fault.BookFault.{BookFault}
use Rattle.pw_book.specs.declared.fault.BookFault.TheVariants.{Reopen}
use Rattle.pw_report.specs.Reports.{IsReport}

abbrev went-well : {T E : Type 0} → Result T E → Bool
went-well (Ok t) = true
went-well (Err e) = false

abbrev fault-in : {T E : Type 0} → E → Result T E → E
fault-in other (Ok t) = other
fault-in other (Err e) = e

abbrev fails : (T : Type 0) {E : Type 0} → E → Result T E
fails T e = Err e

abbrev succeeds : (T : Type 0) → T → Result T BookFault
succeeds T t = Ok t

other-err : (T U : Type 0) {E : Type 0} (e f : E) → fails T e ≡ fails T f → fails U e ≡ fails U f
other-err T U {E} e f x = ap (λ (z : E). fails U z) (ap (λ (r : Result T E). fault-in e r) x)

module _ {S : Type 0} (shelf : Ghosts S) where
  pub report-ok : {T U : Type 0} (t : T) (u : U) (a b : Book S shelf) → IsReport shelf (succeeds T t) a b → IsReport shelf (succeeds U u) a b
  report-ok {T} {U} t u a b r = record {
    asked = r.asked;
    reopen = (
      λ x. absurd (true≢false (ap (λ (z : Result U BookFault). went-well z) x)),
      λ s. absurd (true≢false (ap (λ (z : Result T BookFault). went-well z) (r.reopen.1 s))),
    );
    untouched = r.untouched;
  }

  pub report-err : {T U : Type 0} (fault : BookFault) (a b : Book S shelf) → IsReport shelf (fails T fault) a b → IsReport shelf (fails U fault) a b
  report-err {T} {U} fault a b r = record {
    asked = r.asked;
    reopen = (λ x. r.reopen.0 (other-err U T fault Reopen x), λ s. other-err T U fault Reopen (r.reopen.1 s));
    untouched = r.untouched;
  }
