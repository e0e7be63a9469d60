-- Where a name stands in a list.
use Rattle.std.proofs.Common.{◌≡◌, ℕ, ◌<◌, ◌≤◌, true, false, Some, List, [], length, get_or, slice_get, ap, sym, ◌∙◌, subst, inl, inr, arith}
use Rattle.std.specs.List.{position_or_len}
use Rattle.std.proofs.lemmas.Bool.{cases_Bool, cases_lt, true≢false}
use Rattle.std.proofs.lemmas.List.{length-map}
use Rattle.std.proofs.lemmas.List.Sums.{position_or_len_is, fails_before_first, passes_at_first}
use Rattle.std.proofs.lemmas.Option.{slice_get-get_or, slice_get_past, same_Some, none-some}
use Rattle.pw_tariff.specs.Office.{OfficeFile, AreDistinct, ids}
use Rattle.pw_tariff.specs.Words.{same_text}
use Rattle.pw_tariff.proofs.Named.{same-text, own-text}
use Rattle.pw_moving.specs.Names.{place_of, place_in}
use Rattle.pw_moving.specs.Laws.{NamesComeBack}

-- what stands at a place stands before the end
pub within : {X : Type 0} (xs : List X) (i : ℕ) (x : X) → slice_get xs i ≡ Some x → i < length xs
within xs i x h = elim (cases_lt i (length xs)) [
  | inl l ↦ l
  | inr l ↦ absurd (none-some x (sym (slice_get_past xs i l) ∙ h))
]

pub read-there : (names : List (List ℕ)) (i : ℕ) (name : List ℕ) → slice_get names i ≡ Some name → get_or names i [] ≡ name
read-there names i name h = same_Some (get_or names i []) name (sym (slice_get-get_or names i [] (within names i name h)) ∙ h)

-- a name that stands at a place of a list without doubles is found there
pub found-there : (names : List (List ℕ)) (i : ℕ) (name : List ℕ) → AreDistinct names → slice_get names i ≡ Some name → place_of names name ≡ i
unfolding place_of
found-there names i name one h =
    let l : i < length names = within names i name h in
    position_or_len_is (λ n. same_text n name) names i [] (omega (arith, l))
    (λ k b. elim (cases_Bool (same_text (get_or names k []) name)) [
      | inr f ↦ f
      | inl t ↦ (
          let m : k < length names = omega (arith, b, l) in
          let e : slice_get names k ≡ Some name = slice_get-get_or names k [] m ∙ ap Some (same-text (get_or names k []) name t) in
          let j : k ≡ i = one k i name e h in
          absurd (omega (arith, b, j)))
    ])
    (λ b. let P : List ℕ → Type 0 = λ n. same_text n name ≡ true in subst P (sym (read-there names i name h)) (own-text name))

-- where a place is found, the name stands there
pub stands-there : (names : List (List ℕ)) (name : List ℕ) → place_of names name < length names → slice_get names (place_of names name) ≡ Some name
unfolding place_of
stands-there names name l =
    let i : ℕ = position_or_len (λ n. same_text n name) names in
    let t : same_text (get_or names i []) name ≡ true = passes_at_first (λ n. same_text n name) names [] l in
    slice_get-get_or names i [] l ∙ ap Some (same-text (get_or names i []) name t)

-- no place before the first at which it stands
pub found-first : (names : List (List ℕ)) (i : ℕ) (name : List ℕ) → slice_get names i ≡ Some name → place_of names name ≤ i
unfolding place_of
found-first names i name h = elim (cases_lt i (position_or_len (λ n. same_text n name) names)) [
  | inr l ↦ l
  | inl l ↦ absurd (
      let f : same_text (get_or names i []) name ≡ false = fails_before_first (λ n. same_text n name) names i [] l in
      let P : List ℕ → Type 0 = λ n. same_text n name ≡ true in
      true≢false (sym (subst P (sym (read-there names i name h)) (own-text name)) ∙ f))
]

-- a name that stands nowhere has no place
pub stands-nowhere : (names : List (List ℕ)) (name : List ℕ) → ((i : ℕ) → slice_get names i ≡ Some name → ⊥) → length names ≤ place_of names name
stands-nowhere names name h = elim (cases_lt (place_of names name) (length names)) [
  | inl l ↦ absurd (h (place_of names name) (stands-there names name l))
  | inr l ↦ l
]

-- ---- there and back
back : (old new : List (List ℕ)) (i : ℕ) → AreDistinct old → i < length old → place_in old new i < length new → place_in new old (place_in old new i) ≡ i
back old new i one l k =
    let name : List ℕ = get_or old i [] in
    let there : slice_get new (place_of new name) ≡ Some name = stands-there new name k in
    ap (place_of old) (read-there new (place_of new name) name there) ∙ found-there old i name one (slice_get-get_or old i [] l)

-- the names of meters are as many as the meters
pub ids-many : (file : OfficeFile) → length (ids file.meters) ≡ length file.meters
ids-many file = length-map file.meters (λ m. m.id)

pub names-come_back : NamesComeBack
names-come_back o sound = record {
  accounts = λ a l k. back o.old.accounts o.new.accounts a sound.named.accounts l k;
  meters = λ m l k.
      let p = ids-many o.old in
      let q = ids-many o.new in
      back (ids o.old.meters) (ids o.new.meters) m sound.named.meters (omega (arith, l, p)) (omega (arith, k, q));
}
