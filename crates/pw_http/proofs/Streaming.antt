-- What was read, and what a reader that tells its bytes has left, are the stream.
use Rattle.std.proofs.Common.{◌≡◌, ◌<◌, ℕ, ◌+◌, List, [], ◌++◌, Option, Some, None, Bool, true, false, refl, sym, ap, ◌∙◌, append_assoc, arith}
use Rattle.std.specs.Prelude.{◌==◌}
use Rattle.std.specs.Io.KnownBytes.{Appends, Consumes, Keeps, IsAtEnd}
use Rattle.pw_serve.proofs.Known.{Appends-then, Consumes-then}
use Rattle.pw_http.specs.declared.audience.Audience.{Audience}
use Rattle.pw_http.specs.inner.Received.{IsFilled}
use Rattle.pw_http.specs.Replies.{Reply}
use Rattle.pw_http.specs.Runs.{Asking, Conversation, Cut, Tells, Told}
use Rattle.pw_http.proofs.Talks.{Told-ends, Told-cut}

abbrev pub left_of : Option (List ℕ) → List ℕ
left_of None = []
left_of (Some xs) = xs

pub none_left_at_end : (w : Option (List ℕ)) → IsAtEnd w → left_of w ≡ []
none_left_at_end None x = refl
none_left_at_end (Some xs) x = x

pub Consumes-kept : (u v w : Option (List ℕ)) (a : List ℕ) → Consumes u v a → Keeps v w → Consumes u w a
Consumes-kept None v w a x y = tt
Consumes-kept (Some xs) None w a x y = absurd x
Consumes-kept (Some xs) (Some ys) None a x y = absurd y
Consumes-kept (Some xs) (Some ys) (Some zs) a x y = x ∙ ap (λ (t : List ℕ). a ++ t) (sym y)

tells : (u w : Option (List ℕ)) (a : List ℕ) → Consumes u w a → Tells u (a ++ left_of w)
tells None w a x = tt
tells (Some xs) None a x = absurd x
tells (Some xs) (Some ys) a x = x

-- the stream is what was got, the next piece, and what is left
pub stream_is : (u v w : Option (List ℕ)) (a b : List ℕ) → Consumes u v a → Consumes v w b → Tells u (a ++ (b ++ left_of w))
stream_is u v w a b x y = rw (sym (append_assoc a b (left_of w))) (tells u w (a ++ b) (Consumes-then u v w a b x y))

zero_if : (n : ℕ) (b : Bool) → b ≡ (n == 0) → b ≡ true → n ≡ 0
zero_if n b e h = grind (arith, e, h)

pub positive_if : (n : ℕ) → (n == 0) ≡ false → 0 < n
positive_if n h = grind (arith, h)

module _ (audience : Audience) {S : Type 0} (serves : S → Asking → Reply → S → Type 0) where
  -- the conversation ended with what this piece brought
  pub ends_here : (a b c : S) (got text inbox full : List ℕ) (m n count : ℕ) (u v w k0 k1 k2 : Option (List ℕ))
      → Told audience serves a got text m b inbox → Consumes u v got → Appends k0 k1 text → (f : IsFilled inbox full v w count)
      → (x : (more : List ℕ) × Appends k1 k2 more × ((left : List ℕ) → ((count == 0) ≡ true → left ≡ []) → Conversation audience serves b (full ++ left) more n c))
      → (stream : List ℕ) × (all : List ℕ) × Tells u stream × Appends k0 k2 all × Conversation audience serves a stream all (m + n) c
  ends_here a b c got text inbox full m n count u v w k0 k1 k2 told consumed written f x =
      let left = left_of w in
      let rest : Conversation audience serves b (inbox ++ (f.piece ++ left)) x.0 n c = rw (sym (ap (λ (t : List ℕ). t ++ left) f.new_is ∙ append_assoc inbox f.piece left)) (x.2 left (λ h. none_left_at_end w (f.end (zero_if count (count == 0) refl h)))) in
      (got ++ (f.piece ++ left), text ++ x.0, stream_is u v w got f.piece consumed f.consumed, Appends-then k0 k1 k2 text x.0 written x.1, Told-ends audience serves a b c got inbox (f.piece ++ left) text x.0 m n told rest)

  pub cut_here : (a b c : S) (got text inbox full : List ℕ) (m count : ℕ) (u v w k0 k1 k2 : Option (List ℕ))
      → Told audience serves a got text m b inbox → Consumes u v got → Appends k0 k1 text → (f : IsFilled inbox full v w count)
      → (x : (more : List ℕ) × Appends k1 k2 more × ((left : List ℕ) → ((count == 0) ≡ true → left ≡ []) → Cut audience serves b (full ++ left) more c))
      → (stream : List ℕ) × (all : List ℕ) × Tells u stream × Appends k0 k2 all × Cut audience serves a stream all c
  cut_here a b c got text inbox full m count u v w k0 k1 k2 told consumed written f x =
      let left = left_of w in
      let rest : Cut audience serves b (inbox ++ (f.piece ++ left)) x.0 c = rw (sym (ap (λ (t : List ℕ). t ++ left) f.new_is ∙ append_assoc inbox f.piece left)) (x.2 left (λ h. none_left_at_end w (f.end (zero_if count (count == 0) refl h)))) in
      (got ++ (f.piece ++ left), text ++ x.0, stream_is u v w got f.piece consumed f.consumed, Appends-then k0 k1 k2 text x.0 written x.1, Told-cut audience serves a b c got inbox (f.piece ++ left) text x.0 m told rest)
