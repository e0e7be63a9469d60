-- The members of a list that pass a test.
use Rattle.std.proofs.Common.{◌≡◌, Bool, true, List, [], ◌∷◌, filter, ap, sym, ◌∙◌, inl, inr}
use Rattle.std.proofs.lemmas.Bool.{cases_Bool}
use Rattle.pw_model.specs.Counting.{Member, EachOnce}

module _ {X : Type 0} (p : X → Bool) where
  pub filtered-member : (xs : List X) (x : X) → Member x (filter p xs) → Member x xs × (p x ≡ true)
  filtered-member [] x m = absurd m
  filtered-member (y ∷ ys) x m = elim (cases_Bool (p y)) [
    | inl t ↦ (
        let k : Member x (y ∷ filter p ys) = rw t at m in
        elim k [
          | inl i ↦ (inl i, ap p i ∙ t)
          | inr n ↦ (let h = filtered-member ys x n in (inr h.0, h.1))
        ])
    | inr f ↦ (let k : Member x (filter p ys) = rw f at m in let h = filtered-member ys x k in (inr h.0, h.1))
  ]

  pub member-filtered : (xs : List X) (x : X) → Member x xs → p x ≡ true → Member x (filter p xs)
  member-filtered [] x m t = absurd m
  member-filtered (y ∷ ys) x (inl i) t = rw (ap p (sym i) ∙ t) (inl i)
  member-filtered (y ∷ ys) x (inr m) t = elim (cases_Bool (p y)) [
    | inl e ↦ rw e (inr (member-filtered ys x m t))
    | inr f ↦ rw f (member-filtered ys x m t)
  ]

  pub filtered-once : (xs : List X) → EachOnce xs → EachOnce (filter p xs)
  filtered-once [] o = tt
  filtered-once (y ∷ ys) o = elim (cases_Bool (p y)) [
    | inl t ↦ rw t (λ m. o.0 (filtered-member ys y m).0, filtered-once ys o.1)
    | inr f ↦ rw f (filtered-once ys o.1)
  ]
