-- Records added and taken away again.
use Rattle.std.proofs.Common.{◌≡◌, ◌≤◌, Bool, List, [], ◌∷◌, ◌++◌, length, refl, sym, ap, subst, ◌∙◌, inl, inr, arith}
use Rattle.std.specs.Set.{remove_key}
use Rattle.std.specs.BTreeMap.{is_at}
use Rattle.std.proofs.lemmas.Bool.{cases_Bool}
use Rattle.std.proofs.lemmas.Cmp.{tied_itself}
use Rattle.pw_model.specs.declared.records.Entry.{Entry}
use Rattle.pw_model.specs.Counting.{Member, IsInserted, EachOnce}
use Rattle.pw_shelf.specs.Added.{without}
use Rattle.pw_shelf.proofs.InOrder.{at-is, order, order_exact, order_total}

-- ---- what stays where one is taken away
module _ {X : Type 0} (p : X → Bool) where
  pub removed-member : (xs : List X) (x : X) → Member x (remove_key p xs) → Member x xs
  removed-member [] x m = absurd m
  removed-member (y ∷ xs) x m =
      elim (cases_Bool (p y)) [
        | inl t ↦ (let P : List X → Type 0 = Member x in let n : Member x xs = rw t at m in inr n)
        | inr f ↦ (let n : Member x (y ∷ remove_key p xs) = rw f at m in
            elim n [ inl i ↦ inl i | inr j ↦ inr (removed-member xs x j) ])
      ]

  pub removed-once : (xs : List X) → EachOnce xs → EachOnce (remove_key p xs)
  removed-once [] h = tt
  removed-once (y ∷ xs) h =
      elim (cases_Bool (p y)) [
        | inl t ↦ rw t h.1
        | inr f ↦ rw f (λ m. h.0 (removed-member xs y m), removed-once xs h.1)
      ]

  pub removed-length : (xs : List X) → length (remove_key p xs) ≤ length xs
  removed-length [] = omega arith
  removed-length (y ∷ xs) =
      elim (cases_Bool (p y)) [
        | inl t ↦ rw t (omega arith)
        | inr f ↦ rw f (let h = removed-length xs in omega (arith, h))
      ]

-- ---- one added, and taken away again
absent-stays : (e : Entry) (xs : List Entry) → (Member e xs → ⊥) → remove_key (is_at (order e)) xs ≡ xs
absent-stays e [] n = refl
absent-stays e (x ∷ xs) n =
    elim (cases_Bool (is_at (order e) x)) [
      | inl t ↦ absurd (n (inl (order_exact e x (at-is _ t))))
      | inr f ↦ rw f (ap (λ ys. x ∷ ys) (absent-stays e xs (λ m. n (inr m))))
    ]

found-first : (e : Entry) (xs ys : List Entry) → (Member e (xs ++ ys) → ⊥) →
    remove_key (is_at (order e)) (xs ++ e ∷ ys) ≡ xs ++ ys
found-first e [] ys n = let t : order e e ≡ _ = tied_itself order_total e in rw t refl
found-first e (x ∷ xs) ys n =
    elim (cases_Bool (is_at (order e) x)) [
      | inl t ↦ absurd (n (inl (order_exact e x (at-is _ t))))
      | inr f ↦ rw f (ap (λ zs. x ∷ zs) (found-first e xs ys (λ m. n (inr m))))
    ]

without-last : (xs : List Entry) (e : Entry) (records : List Entry) →
    without (xs ++ e ∷ []) records ≡ without xs (remove_key (is_at (order e)) records)
without-last [] e records = refl
without-last (x ∷ xs) e records = ap (λ ys. remove_key (is_at (order x)) ys) (without-last xs e records)

-- the last one that was added goes
pub without-popped : (xs added : List Entry) (e : Entry) (records new : List Entry) → added ≡ xs ++ e ∷ [] →
    new ≡ remove_key (is_at (order e)) records → without xs new ≡ without added records
without-popped xs added e records new h i =
    ap (λ ys. without xs ys) i ∙ sym (without-last xs e records) ∙ sym (ap (λ ys. without ys records) h)

-- one more is added, or there was no memory for it
pub without-inserted : (added more : List Entry) (e : Entry) (old new : List Entry) → more ≡ added ++ e ∷ [] →
    (Member e old → ⊥) → IsInserted e old new → without more new ≡ without added old
without-inserted added more e old new h n i =
    let P : List Entry → Type 0 = λ l. Member e l → ⊥ in
    let back : remove_key (is_at (order e)) new ≡ old =
    ap (λ ys. remove_key (is_at (order e)) ys) i.3 ∙ found-first e i.0 i.1 (subst P i.2 n) ∙ sym i.2 in
    ap (λ ys. without ys new) h ∙ without-last added e new ∙ ap (λ ys. without added ys) back

pub without-refused : (added more : List Entry) (e : Entry) (old new : List Entry) → more ≡ added ++ e ∷ [] →
    (Member e old → ⊥) → new ≡ old → without more new ≡ without added old
without-refused added more e old new h n i =
    let back : remove_key (is_at (order e)) new ≡ old =
    ap (λ ys. remove_key (is_at (order e)) ys) i ∙ absent-stays e old n in
    ap (λ ys. without ys new) h ∙ without-last added e new ∙ ap (λ ys. without added ys) back
