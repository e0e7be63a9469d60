-- Uploads to a book, one behind another.
use Rattle.std.proofs.Common.{◌≡◌, ℕ, Result, Ok, Err, IfErr, IsErrOf, refl, subst, sym, ◌∙◌, inl, inr}
use Rattle.std.proofs.lemmas.Bool.{cases_Bool, true≢false}
use Rattle.pw_shelf.specs.declared.shelf.Shelf.{Ghosts}
use Rattle.pw_tariff.specs.Office.{office_of}
use Rattle.pw_book.specs.Asking.{IsOnlyAsked}
use Rattle.pw_book.specs.Posting.{FailuresPosted, LeavesSound}
use Rattle.pw_book.specs.Questions.{failures_asked}
use Rattle.pw_book.specs.declared.book.Book.{Book}
use Rattle.pw_book.specs.declared.fault.BookFault.TheVariants as book
use Rattle.pw_book.specs.declared.fault.PostFault.{PostFault}
use Rattle.pw_book.specs.declared.fault.PostFault.TheVariants as post
use Rattle.pw_book.proofs.Chains.{Joins}
use Rattle.pw_carrying.specs.Carrying.{HasUploads, asked_of, posted_of}
use Rattle.pw_carrying.specs.declared.fault.CarryFault.{CarryFault}
use Rattle.pw_carrying.specs.declared.fault.CarryFault.TheVariants as carry
use Rattle.pw_carrying.specs.inner.Stages.{IsNotAsked}

not-failed : {T E : Type 0} (x : T) (e : E) → IsErrOf {T = T} {E = E} (Ok x) e → ⊥
not-failed x e h = cc

failures-then : {T : Type 0} (answer : Result T PostFault) (a b c : ℕ) → b ≡ a → FailuresPosted answer b c → FailuresPosted answer a c
failures-then answer a b c e h = rw (sym e) h

module _ {S : Type 0} (shelf : Ghosts S) where
  -- none was sent
  pub uploads-none : {T : Type 0} (yet : (s : S) → shelf.same_store s s) (x : T) (a : Book S shelf) → HasUploads shelf {X = T} (Ok x) a a
  uploads-none yet x a = record {
    clean = λ k. k;
    sound = λ k all c l. all c l;
    failures = refl;
    store = yet a.shelf;
    shut = λ o. (λ s. absurd (true≢false (sym s ∙ o)), λ e. absurd (not-failed x post.Reopen e));
    office = refl;
    zone = refl;
    limit = refl;
  }

  -- one behind others
  pub uploads-then : {T U : Type 0} (joined : Joins shelf.same_store) (x : T) (answer : Result U PostFault) (a b c : Book S shelf) → HasUploads shelf {X = T} (Ok x) a b → HasUploads shelf answer b c → HasUploads shelf answer a c
  uploads-then joined x answer a b c f g = record {
    clean = λ k. f.clean (g.clean k);
    sound = λ k all d l. (let h : LeavesSound (office_of a.office) (shelf.left b.shelf) (shelf.left c.shelf) = rw (sym f.office) (g.sound k) in h (f.sound (g.clean k) all) d l);
    failures = failures-then answer _ _ _ f.failures g.failures;
    store = joined a.shelf b.shelf c.shelf f.store g.store;
    shut = λ o. g.shut (elim (cases_Bool b.shut) [ inl t ↦ absurd (not-failed x post.Reopen ((f.shut o).0 t)) | inr n ↦ n ]);
    office = g.office ∙ f.office;
    zone = g.zone ∙ f.zone;
    limit = g.limit ∙ f.limit;
  }

-- ---- a fault that isn't the first book's
pub not-asked : {X : Type 0} (result : Result X CarryFault) → IfErr result IsNotAsked → failures_asked (asked_of result) ≡ 0
not-asked (Ok x) h = refl
not-asked (Err (carry.Record e)) h = refl
not-asked (Err (carry.Post f)) h = refl
not-asked (Err (carry.Book f)) h = absurd h
not-asked (Err carry.Memory) h = refl

pub not-shut : {X : Type 0} (result : Result X CarryFault) → IfErr result IsNotAsked → IsErrOf (asked_of result) book.Reopen → ⊥
not-shut (Ok x) h e = not-failed tt book.Reopen e
not-shut (Err (carry.Record r)) h e = not-failed tt book.Reopen e
not-shut (Err (carry.Post f)) h e = not-failed tt book.Reopen e
not-shut (Err (carry.Book f)) h e = absurd h
not-shut (Err carry.Memory) h e = cc

-- as an exit tells it
pub uploads-failed : {S X : Type 0} (shelf : Ghosts S) (Y : Type 0) (f g : CarryFault) (result : Result X CarryFault) (a b : Book S shelf) → result ≡ Err g → g ≡ f → HasUploads shelf (posted_of {X = Y} (Err f)) a b → HasUploads shelf (posted_of result) a b
uploads-failed {S} {X} shelf Y f g result a b e m h =
    let G : Result X CarryFault → Type 0 = λ r. HasUploads shelf (posted_of r) a b in
    let F : CarryFault → Type 0 = λ x. G (Err x) in
    subst G (sym e) (subst F (sym m) (same f h))
  where
    same : (f : CarryFault) → HasUploads shelf (posted_of {X = Y} (Err f)) a b → HasUploads shelf (posted_of {X = X} (Err f)) a b
    same (carry.Record r) h = h
    same (carry.Post r) h = h
    same (carry.Book r) h = h
    same carry.Memory h = h

pub asked-failed : {S X : Type 0} (shelf : Ghosts S) (Y : Type 0) (f g : CarryFault) (result : Result X CarryFault) (a b : S) → result ≡ Err g → g ≡ f → IsOnlyAsked shelf (failures_asked (asked_of {X = Y} (Err f))) a b →
    IsOnlyAsked shelf (failures_asked (asked_of result)) a b
asked-failed {S} {X} shelf Y f g result a b e m h =
    let G : Result X CarryFault → Type 0 = λ r. IsOnlyAsked shelf (failures_asked (asked_of r)) a b in
    let F : CarryFault → Type 0 = λ x. G (Err x) in
    subst G (sym e) (subst F (sym m) (same f h))
  where
    same : (f : CarryFault) → IsOnlyAsked shelf (failures_asked (asked_of {X = Y} (Err f))) a b → IsOnlyAsked shelf (failures_asked (asked_of {X = X} (Err f))) a b
    same (carry.Record r) h = h
    same (carry.Post r) h = h
    same (carry.Book r) h = h
    same carry.Memory h = h

pub open-failed : {X : Type 0} (Y : Type 0) (f g : CarryFault) (result : Result X CarryFault) → result ≡ Err g → g ≡ f → (IsErrOf (asked_of {X = Y} (Err f)) book.Reopen → ⊥) → IsErrOf (asked_of result) book.Reopen → ⊥
open-failed {X} Y f g result e m h =
    let G : Result X CarryFault → Type 0 = λ r. IsErrOf (asked_of r) book.Reopen → ⊥ in
    let F : CarryFault → Type 0 = λ x. G (Err x) in
    subst G (sym e) (subst F (sym m) (same f h))
  where
    same : (f : CarryFault) → (IsErrOf (asked_of {X = Y} (Err f)) book.Reopen → ⊥) → IsErrOf (asked_of {X = X} (Err f)) book.Reopen → ⊥
    same (carry.Record r) h = h
    same (carry.Post r) h = h
    same (carry.Book r) h = h
    same carry.Memory h = h
