-- Where in a list a text stands.
use Rattle.std.proofs.Common.{◌≡◌, ℕ, zero, suc, ◌⊎◌, inl, inr, Some, List, [], ◌∷◌, slice_get, refl, ap, ◌∙◌}
use Rattle.std.proofs.lemmas.Option.{none-some, same_Some}
use Rattle.pw_time.proofs.Deciding.{text-known}

-- the element at place i has the text
abbrev pub HasText : {X : Type 0} → (X → List ℕ) → List X → List ℕ → ℕ → Type 0
HasText {X} text xs wanted i = (x : X) × (slice_get xs i ≡ Some x) × (text x ≡ wanted)

not-first : {X : Type 0} (text : X → List ℕ) (x : X) (xs : List X) (wanted : List ℕ) → (text x ≡ wanted → ⊥) → ((i : ℕ) → HasText text xs wanted i → ⊥)
    → (i : ℕ) → HasText text (x ∷ xs) wanted i → ⊥
not-first text x xs wanted n m zero h = n (ap text (same_Some x h.0 h.1) ∙ h.2)
not-first text x xs wanted n m (suc i) h = m i h

pub place-known : {X : Type 0} (text : X → List ℕ) (xs : List X) (wanted : List ℕ) → ((i : ℕ) × HasText text xs wanted i) ⊎ ((i : ℕ) → HasText text xs wanted i → ⊥)
place-known text [] wanted = inr (λ i h. none-some h.0 h.1)
place-known text (x ∷ xs) wanted =
    elim (text-known (text x) wanted) [
      | inl e ↦ inl (0, (x, refl, e))
      | inr n ↦ elim (place-known text xs wanted) [
        | inl h ↦ inl (suc h.0, h.1)
        | inr m ↦ inr (not-first text x xs wanted n m)
      ]
    ]
