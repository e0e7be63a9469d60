-- Rows that are judged one by one, in the order of their keys.
use Rattle.std.proofs.Common.{◌≡◌, ℕ, List, [], ◌∷◌, ◌++◌, map, Option, option_map, Some, None, IfSome, IfNone, refl, sym, ap, subst, ◌∙◌, inl, inr, nat_cmp, Ordering, Equal}
use Rattle.std.proofs.lemmas.List.{map-append}
use Rattle.std.specs.Cmp.Lexicographic.{slice_cmp, nat_list_cmp_total}
use Rattle.std.proofs.lemmas.Cmp.{tied_itself}
use Rattle.std.specs.declared.cmp.Ordering.TheVariants.{Less}
use Rattle.sqlite.specs.Order.{Row}
use Rattle.pw_model.specs.Counting.{Member, EachOnce}
use Rattle.pw_model.specs.Lists.{IsInOrder}
use Rattle.pw_model.proofs.EntryOrder.{numbers-tie}
use Rattle.pw_model.proofs.InOrder.{before-member}
use Rattle.pw_schema.specs.Judges.{IsLastKey}
use Rattle.pw_schema.proofs.OneByOne.{once_mid}
use Rattle.pw_schema.proofs.Pushed.{first_push, last_push}

module _ {X K : Type 0} (f : X → K) (num : K → List ℕ) (one : (k l : K) → num k ≡ num l → k ≡ l) where
  abbrev order : X → X → Ordering
  order x y = slice_cmp nat_cmp (num (f x)) (num (f y))

  apart : (x y : X) → order x y ≡ Less → f x ≡ f y → ⊥
  apart x y less same = let tie : order x y ≡ Equal = ap (λ k. slice_cmp nat_cmp (num (f x)) (num k)) (sym same) ∙ tied_itself nat_list_cmp_total (num (f x)) in cc

  after : (x y z : X) → order x y ≡ Less → order y z ≡ Less → order x z ≡ Less
  after x y z = nat_list_cmp_total.trans (num (f x)) (num (f y)) (num (f z))

  pub key_push : (last : Option K) (found : List X) (e : X) → IsInOrder order found → IsLastKey f last found → IfSome last (λ l. slice_cmp nat_cmp (num l) (num (f e)) ≡ Less) → IsInOrder order (found ++ e ∷ [])
  key_push None found e rising is low = first_push order after found e is
  key_push (Some k) found e rising is low = last_push order after found is.0 is.1 e is.3 rising (subst (λ j. slice_cmp nat_cmp (num j) (num (f e)) ≡ Less) (sym is.2) low)

  keys_member : (x : X) (xs : List X) → Member (f x) (map f xs) → (y : X) × Member y xs × (f x ≡ f y)
  keys_member x [] m = absurd m
  keys_member x (y ∷ xs) (inl e) = (y, inl refl, e)
  keys_member x (y ∷ xs) (inr m) = let it = keys_member x xs m in (it.0, inr it.1, it.2)

  pub keys_once : (xs : List X) → IsInOrder order xs → EachOnce (map f xs)
  keys_once [] h = tt
  keys_once (x ∷ xs) h = (
    λ m. (let it = keys_member x xs m in apart x it.0 (before-member order x it.0 xs h.0 it.1) it.2),
    keys_once xs h.1,
  )

  member_key : (front : List X) (x : X) → Member (f x) (map f (front ++ x ∷ []))
  member_key [] x = inl refl
  member_key (y ∷ front) x = inr (member_key front x)

  twice : (told : Row → X) (rs : List Row) → map f (map told rs) ≡ map (λ r. f (told r)) rs
  twice told [] = refl
  twice told (r ∷ rs) = ap (λ xs. f (told r) ∷ xs) (twice told rs)

  -- the key of the last that was read stands there again
  pub key_twice : (told : Row → X) (rows tail : List Row) (row : Row) (last : Option K) (e : X) → IsLastKey f last (map told rows) → e ≡ told row
      → IfSome last (λ l. slice_cmp nat_cmp (num l) (num (f e)) ≡ Equal) → IfNone last (Equal ≡ Less) → EachOnce (map (λ r. f (told r)) (rows ++ row ∷ tail)) → ⊥
  key_twice told rows tail row None e ends_at one_row tie none once = cc
  key_twice told rows tail row (Some k) e ends_at one_row tie none once =
      let same : k ≡ f (told row) = one k (f e) (numbers-tie (num k) (num (f e)) tie) ∙ ap f one_row in
      let there : Member (f ends_at.1) (map f (map told rows)) = subst (λ xs. Member (f ends_at.1) (map f xs)) (sym ends_at.3) (member_key ends_at.0 ends_at.1) in
      let here : Member (f (told row)) (map f (map told rows)) = subst (λ j. Member j (map f (map told rows))) (ends_at.2 ∙ same) there in
      once_mid (λ r. f (told r)) row rows tail once (subst (Member (f (told row))) (twice told rows) here)

  pub keys_told : (told : Row → X) (rows : List Row) (found : List X) → found ≡ map told rows → IsInOrder order found → EachOnce (map (λ r. f (told r)) rows)
  keys_told told rows found are rising = subst EachOnce (ap (map f) are ∙ twice told rows) (keys_once found rising)

pub told_on : {X : Type 0} (told : Row → X) (rows : List Row) (row : Row) → map told (rows ++ row ∷ []) ≡ map told rows ++ told row ∷ []
told_on told rows row = map-append told rows (row ∷ [])

pub some_mapped : {X K : Type 0} (f : X → K) (last : Option X) (P : K → Type 0) → IfSome last (λ x. P (f x)) → IfSome (option_map f last) P
some_mapped f None P h = tt
some_mapped f (Some x) P h = h

pub none_mapped : {X K : Type 0} (f : X → K) (last : Option X) (P : Type 0) → IfNone last P → IfNone (option_map f last) P
none_mapped f None P h = h
none_mapped f (Some x) P h = tt
