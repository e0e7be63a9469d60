-- The places that a renaming keeps are those of the names.
use Rattle.std.proofs.Common.{◌≡◌, ℕ, ◌+◌, ◌<◌, ◌≤◌, Bool, true, false, cond, Option, Some, None, List, [], ◌∷◌, ◌++◌, length, get_or, slice_get, option_map, refl, ap, sym, ◌∙◌, inl, inr, arith}
use Rattle.std.specs.Prelude.{◌≢◌, nat_lt, IfSome, IfNone}
use Rattle.std.proofs.lemmas.Bool.{cases_eq, cases_lt, lt-ltb, le-ltb}
use Rattle.std.proofs.lemmas.List.{get_or_append_left, get_or_push, length-append, length-map}
use Rattle.std.proofs.lemmas.Option.{none-some, same_Some, slice_get-map}
use Rattle.pw_tariff.specs.declared.ids.MeterId.{MeterId}
use Rattle.pw_tariff.specs.Office.{MeterText, ids}
use Rattle.pw_moving.specs.Names.{place_of, place_in}
use Rattle.pw_moving.specs.Tables.{meter_below}
use Rattle.pw_moving.proofs.Placed.{within, read-there, found-first, stands-there, stands-nowhere}

-- a table of n places gets one more
pub one-more : {X : Type 0} (told : ℕ → Option X) (xs : List (Option X)) (x : Option X) (n : ℕ) → length xs ≡ n → ((i : ℕ) → i < n → get_or xs i None ≡ told i) → x ≡ told n →
    (i : ℕ) → i < n + 1 → get_or (xs ++ x ∷ []) i None ≡ told i
one-more told xs x n c h e i l = elim (cases_eq i n) [
  | inl j ↦ (
      let k : length xs ≡ i = c ∙ sym j in
      get_or_push xs x None i k ∙ e ∙ ap told (sym j))
  | inr d ↦ (
      let m : i < n = omega (arith, l, d) in
      get_or_append_left xs (x ∷ []) None i (omega (arith, c, m)) ∙ h i m)
]

pub count-more : {X : Type 0} (xs : List X) (x : X) (n : ℕ) → length xs ≡ n → length (xs ++ x ∷ []) ≡ n + 1
count-more xs x n c = let a = length-append xs (x ∷ []) in omega (arith, a, c)

-- what is answered where the name at a place of one list is looked for in another, with the numbers of accounts or of meters
module _ {X : Type 0} (wrap : ℕ → X) (number : X → ℕ) (back : (x : X) → wrap (number x) ≡ x) (old new : List (List ℕ)) (i : ℕ) (name : List ℕ) (here : slice_get old i ≡ Some name) where
  place-is : place_in old new i ≡ place_of new name
  place-is = ap (place_of new) (read-there old i name here)

  -- it is found at a place, and at no other
  pub found-told : (x : X) → slice_get new (number x) ≡ Some name → ((j : ℕ) → slice_get new j ≡ Some name → j ≡ number x) →
      Some x ≡ cond (nat_lt (place_in old new i) (length new)) (Some (wrap (place_in old new i))) None
  found-told x h only =
      let first = found-first new (number x) name h in
      let l = within new (number x) name h in
      let k : place_of new name < length new = omega (arith, first, l) in
      let e : place_in old new i ≡ number x = place-is ∙ only (place_of new name) (stands-there new name k) in
      let t : nat_lt (place_in old new i) (length new) ≡ true = lt-ltb (place_in old new i) (length new) (omega (arith, e, l)) in
      sym (ap (λ (b : Bool). cond b (Some (wrap (place_in old new i))) None) t ∙ ap (λ (p : ℕ). Some (wrap p)) e ∙ ap (λ (y : X). Some y) (back x))

  -- or nowhere
  pub none-told : ((j : ℕ) → slice_get new j ≢ Some name) → None ≡ cond (nat_lt (place_in old new i) (length new)) (Some (wrap (place_in old new i))) None
  none-told h =
      let l = stands-nowhere new name h in
      let e = place-is in
      let f : nat_lt (place_in old new i) (length new) ≡ false = le-ltb (place_in old new i) (length new) (omega (arith, e, l)) in
      sym (ap (λ (b : Bool). cond b (Some (wrap (place_in old new i))) None) f)

  pub answer-told : (r : Option X) → IfSome r (λ x. slice_get new (number x) ≡ Some name) → IfSome r (λ x. (j : ℕ) → slice_get new j ≡ Some name → j ≡ number x) →
      IfNone r ((j : ℕ) → slice_get new j ≢ Some name) → r ≡ cond (nat_lt (place_in old new i) (length new)) (Some (wrap (place_in old new i))) None
  answer-told None h only none = none-told none
  answer-told (Some x) h only none = found-told x h only

-- the same of meters, whose names are their ids
named-ids : (meters : List MeterText) (i : ℕ) (name : List ℕ) → option_map (λ (t : MeterText). t.id) (slice_get meters i) ≡ Some name → slice_get (ids meters) i ≡ Some name
named-ids meters i name e = slice_get-map (λ (t : MeterText). t.id) meters i ∙ e

ids-named : (meters : List MeterText) (i : ℕ) (name : List ℕ) → slice_get (ids meters) i ≡ Some name → option_map (λ (t : MeterText). t.id) (slice_get meters i) ≡ Some name
ids-named meters i name e = sym (slice_get-map (λ (t : MeterText). t.id) meters i) ∙ e

meter-found : (meters : List MeterText) (name : List ℕ) (r : Option MeterId) → IfSome r (λ m. option_map (λ t. t.id) (slice_get meters m.0) ≡ Some name) →
    IfSome r (λ m. slice_get (ids meters) m.0 ≡ Some name)
meter-found meters name None h = h
meter-found meters name (Some m) h = named-ids meters m.0 name h

meter-only : (meters : List MeterText) (name : List ℕ) (r : Option MeterId) → IfSome r (λ m. (i : ℕ) → option_map (λ t. t.id) (slice_get meters i) ≡ Some name → i ≡ m.0) →
    IfSome r (λ m. (i : ℕ) → slice_get (ids meters) i ≡ Some name → i ≡ m.0)
meter-only meters name None h = h
meter-only meters name (Some m) h = λ i e. h i (ids-named meters i name e)

meter-nowhere : (meters : List MeterText) (name : List ℕ) (r : Option MeterId) → IfNone r ((i : ℕ) → option_map (λ t. t.id) (slice_get meters i) ≢ Some name) →
    IfNone r ((i : ℕ) → slice_get (ids meters) i ≢ Some name)
meter-nowhere meters name (Some m) h = h
meter-nowhere meters name None h = λ i e. h i (ids-named meters i name e)

pub meter-told : (old new : List MeterText) (i : ℕ) (name : List ℕ) → option_map (λ (t : MeterText). t.id) (slice_get old i) ≡ Some name → (r : Option MeterId) →
    IfSome r (λ m. option_map (λ t. t.id) (slice_get new m.0) ≡ Some name) → IfSome r (λ m. (j : ℕ) → option_map (λ t. t.id) (slice_get new j) ≡ Some name → j ≡ m.0) →
    IfNone r ((j : ℕ) → option_map (λ t. t.id) (slice_get new j) ≢ Some name) → r ≡ meter_below (length new) (place_in (ids old) (ids new) i)
meter-told old new i name here r some only none =
    let wrap : ℕ → MeterId = λ n. record { 0 = n } in
    let number : MeterId → ℕ = λ m. m.0 in
    let many : length (ids new) ≡ length new = length-map new (λ m. m.id) in
    answer-told wrap number (λ m. refl) (ids old) (ids new) i name (named-ids old i name here) r (meter-found new name r some) (meter-only new name r only) (meter-nowhere new name r none)
    ∙ ap (λ (n : ℕ). meter_below n (place_in (ids old) (ids new) i)) many

-- ---- what a kept place says
pub below-some : {X : Type 0} (wrap : ℕ → X) (n place : ℕ) (x : X) → cond (nat_lt place n) (Some (wrap place)) None ≡ Some x → (wrap place ≡ x) × (place < n)
below-some {X} wrap n place x h = elim (cases_lt place n) [
  | inl l ↦ (
      let t : nat_lt place n ≡ true = lt-ltb place n l in
      let e : cond (nat_lt place n) (Some (wrap place)) None ≡ Some (wrap place) = ap (λ (b : Bool). cond b (Some (wrap place)) None) t in
      (same_Some (wrap place) x (sym e ∙ h), l))
  | inr l ↦ absurd (
      let f : nat_lt place n ≡ false = le-ltb place n l in
      let e : cond (nat_lt place n) (Some (wrap place)) None ≡ None = ap (λ (b : Bool). cond b (Some (wrap place)) None) f in
      none-some x (sym e ∙ h))
]

pub below-none : {X : Type 0} (wrap : ℕ → X) (n place : ℕ) → cond (nat_lt place n) (Some (wrap place)) None ≡ None → n ≤ place
below-none {X} wrap n place h = elim (cases_lt place n) [
  | inr l ↦ l
  | inl l ↦ absurd (
      let t : nat_lt place n ≡ true = lt-ltb place n l in
      let e : cond (nat_lt place n) (Some (wrap place)) None ≡ Some (wrap place) = ap (λ (b : Bool). cond b (Some (wrap place)) None) t in
      none-some (wrap place) (sym h ∙ e))
]
