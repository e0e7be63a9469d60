-- A port that is served by what holds a book: as the book sees it.
use Rattle.std.proofs.Common.{◌≡◌, inl, inr, ap, sym, subst}
use Rattle.pw_shelf.specs.declared.shelf.Shelf.{Ghosts}
use Rattle.pw_book.specs.declared.book.Book.{Book}
use Rattle.pw_http.specs.declared.audience.Audience.{Audience}
use Rattle.pw_http.specs.Replies.{Reply}
use Rattle.pw_http.specs.Runs.{Asking}
use Rattle.pw_http.specs.Steps.{Answers}
use Rattle.pw_http.proofs.ManyTalks.{many-through}
use Rattle.pw_sockets.specs.Unknown.{unknown}
use Rattle.pw_commands.specs.Ports.{IsServed}

module _ {B T : Type 0} {shelf : Ghosts B} (audience : Audience) (a b : T) (f : T → Book B shelf) where
  abbrev serves : T → Asking → Reply → T → Type 0
  serves old asking reply new = Answers shelf (f old) asking reply (f new)

  served-through : IsServed audience serves a b → IsServed audience (Answers shelf) (f a) (f b)
  served-through (inl e) = inl (ap f e)
  served-through (inr x) = inr (many-through f serves (Answers shelf) (λ p asking reply q h. h) audience a b (λ k. unknown) (λ k. unknown) x)

  pub book-served : (x y : Book B shelf) → f a ≡ x → y ≡ f b → IsServed audience (λ old asking reply new. Answers shelf (f old) asking reply (f new)) a b → IsServed audience (Answers shelf) x y
  book-served x y e h s =
      subst (λ (z : Book B shelf). IsServed audience (Answers shelf) x z) (sym h)
      (subst (λ (z : Book B shelf). IsServed audience (Answers shelf) z (f b)) e (served-through s))
