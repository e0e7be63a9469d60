-- What a table tells of a key, and which of its rows tells it.
use Rattle.std.proofs.Common.{◌≡◌, List, [], ◌∷◌, map, find, option_map, Bool, true, Option, Some, None, refl, sym, ap, subst, inl, inr}
use Rattle.std.proofs.lemmas.Bool.{cases_Bool}
use Rattle.sqlite.specs.Order.{Row}
use Rattle.pw_model.specs.Counting.{Member, EachOnce}

pub image : {X Y : Type 0} (f : X → Y) (x : X) (xs : List X) → Member x xs → Member (f x) (map f xs)
image f x [] m = absurd m
image f x (y ∷ xs) (inl e) = inl (ap f e)
image f x (y ∷ xs) (inr m) = inr (image f x xs m)

pub before_map : {X Y : Type 0} (f : X → Y) (y : Y) (xs : List X) → Member y (map f xs) → (x : X) × (Member x xs × (y ≡ f x))
before_map f y [] m = absurd m
before_map f y (x ∷ xs) (inl e) = (x, (inl refl, e))
before_map f y (x ∷ xs) (inr m) = let rest = before_map f y xs m in (rest.0, (inr rest.1.0, rest.1.1))

module _ {K A : Type 0} (same : K → K → Bool) (decides : (k l : K) → (same k l ≡ true → k ≡ l) × (k ≡ l → same k l ≡ true)) (key_in : Row → K) (value : Row → A) where
  abbrev told : List Row → K → Option A
  told rows l = option_map value (find (λ x. same l (key_in x)) rows)

  -- what is told is told by a row
  pub told_row : (rows : List Row) (l : K) (v : A) → told rows l ≡ Some v → (r : Row) × (Member r rows × ((key_in r ≡ l) × (value r ≡ v)))
  told_row [] l v e = absurd (let bad : None ≡ Some v = e in cc)
  told_row (r ∷ rows) l v e = elim (cases_Bool (same l (key_in r))) [
    | inl up ↦ (let is : Some (value r) ≡ Some v = rw up at e in let one : value r ≡ v = cc in (r, (inl refl, (sym ((decides l (key_in r)).0 up), one))))
    | inr down ↦ (let more : told rows l ≡ Some v = rw down at e in let rest = told_row rows l v more in (rest.0, (inr rest.1.0, rest.1.1)))
  ]

  -- a row whose key no other has tells it
  pub row_told : (rows : List Row) (r : Row) → EachOnce (map key_in rows) → Member r rows → told rows (key_in r) ≡ Some (value r)
  row_told [] r once m = absurd m
  row_told (y ∷ rows) r once (inl e) = rw ((decides (key_in r) (key_in y)).1 (ap key_in e)) (ap (λ x. Some (value x)) (sym e))
  row_told (y ∷ rows) r once (inr m) = elim (cases_Bool (same (key_in r) (key_in y))) [
    | inl up ↦ absurd (once.0 (subst (λ k. Member k (map key_in rows)) ((decides (key_in r) (key_in y)).0 up) (image key_in r rows m)))
    | inr down ↦ rw down (row_told rows r once.1 m)
  ]
