-- Weeks that have the same bands, hour by hour; names that moved; and changes that may all be adopted.
use Rattle.std.proofs.Common.{take, ◌≡◌, ◌↔◌, IsTrue, Bool, option_map, ◌==◌, not, true, false, ap, ◌⊎◌, ℕ, ◌+◌, ◌<◌, ◌≤◌, Option, Some, List, length, get_or, slice_get, sym, subst, ◌∙◌, inl, inr, arith}
use Rattle.std.proofs.lemmas.Bool.{cases_Bool, cases_eq, eq-eqb, eqb-true, true≢false}
use Rattle.std.proofs.lemmas.Option.{same_Some, slice_get-map}
use Rattle.pw_tariff.specs.Office.{MeterText}
use Rattle.pw_tariff.specs.Words.{same_text}
use Rattle.pw_tariff.proofs.Named.{own-text, same-text}
use Rattle.pw_model.proofs.Places.{at-member, at-some, taken-each}
use Rattle.pw_moving.specs.declared.change.Change.{Change}
use Rattle.pw_moving.specs.declared.change.Change.TheVariants as change
use Rattle.pw_moving.specs.declared.change.Listed.{Listed}
use Rattle.pw_moving.specs.declared.change.Listed.TheVariants.{Meters}
use Rattle.pw_moving.specs.declared.change.Respelling.{Respelling}
use Rattle.pw_moving.specs.Names.{names_in}
use Rattle.pw_moving.specs.Renaming.{Offices}
use Rattle.pw_moving.specs.Changes.{Differs, HaveSameWeek, AreChanges, band_of_hour}
use Rattle.pw_moving.specs.Adopting.{Adopts, MayBeAdopted}
use Rattle.pw_moving.specs.inner.Comparing.{AreAdopted, AreSameDays, AreSameHours, HasNotMoved}
use Rattle.pw_moving.proofs.Placed.{within}

-- ---- numbers that were compared
pub same-numbers : (a b : ℕ) → false ≡ not (a == b) → a ≡ b
same-numbers a b h = elim (cases_Bool (a == b)) [
  | inl t ↦ eqb-true a b t
  | inr f ↦ absurd (true≢false (sym (h ∙ ap not f)))
]

pub other-numbers : (a b : ℕ) → true ≡ not (a == b) → a ≡ b → ⊥
other-numbers a b h e = true≢false (h ∙ ap not (eq-eqb a b e))

-- ---- weeks
pub hours-none : (o : Offices) (p day : ℕ) → AreSameHours o p day 0
hours-none o p day hour l = absurd (omega (arith, l))

pub hours-more : (o : Offices) (p day hours : ℕ) → AreSameHours o p day hours → band_of_hour o.old p day hours ≡ band_of_hour o.new p day hours → AreSameHours o p day (hours + 1)
hours-more o p day hours h e hour l = elim (cases_eq hour hours) [
  | inl i ↦ (let P : ℕ → Type 0 = λ n. band_of_hour o.old p day n ≡ band_of_hour o.new p day n in subst P (sym i) e)
  | inr d ↦ h hour (omega (arith, l, d))
]

pub days-none : (o : Offices) (p : ℕ) → AreSameDays o p 0
days-none o p day l = absurd (omega (arith, l))

pub days-more : (o : Offices) (p days : ℕ) → AreSameDays o p days → AreSameHours o p days 24 → AreSameDays o p (days + 1)
days-more o p days h e day l = elim (cases_eq day days) [
  | inl i ↦ (let P : ℕ → Type 0 = λ n. AreSameHours o p n 24 in subst P (sym i) e)
  | inr d ↦ h day (omega (arith, l, d))
]

pub week-whole : (o : Offices) (p : ℕ) → AreSameDays o p 7 → HaveSameWeek o p
week-whole o p h day hour l k = h day l hour k

-- ---- names of meters that were compared
pub meters-named : (o : Offices) (list : Listed) (from to : ℕ) (x y : List ℕ) (same : Bool) → list ≡ Meters → option_map (λ (t : MeterText). t.id) (slice_get o.old.meters from) ≡ Some x →
    option_map (λ (t : MeterText). t.id) (slice_get o.new.meters to) ≡ Some y → same ≡ same_text x y →
    IsTrue same ↔ (slice_get (names_in list o.old) from ≡ slice_get (names_in list o.new) to)
meters-named o list from to x y same is here there told =
    let P : Listed → Type 0 = λ l. IsTrue same ↔ (slice_get (names_in l o.old) from ≡ slice_get (names_in l o.new) to) in
    let old : slice_get (names_in Meters o.old) from ≡ Some x = slice_get-map (λ (t : MeterText). t.id) o.old.meters from ∙ here in
    let new : slice_get (names_in Meters o.new) to ≡ Some y = slice_get-map (λ (t : MeterText). t.id) o.new.meters to ∙ there in
    subst P (sym is) (
      λ t. old ∙ ap (λ (n : List ℕ). Some n) (same-text x y (sym told ∙ t)) ∙ sym new,
      λ e. told ∙ subst (λ (n : List ℕ). same_text x n ≡ true) (same_Some x y (sym old ∙ e ∙ new)) (own-text x),
    )

-- ---- names that moved
not-here : (o : Offices) (list : Listed) (from to : ℕ) → (from ≡ to) ⊎ (slice_get (names_in list o.old) from ≡ slice_get (names_in list o.new) to → ⊥) → Differs o (change.Moved list from to) → ⊥
not-here o list from to (inl e) h = h.1 e
not-here o list from to (inr n) h = n (h.0.1 ∙ sym h.0.2)

pub not-moved_none : (o : Offices) (list : Listed) (from : ℕ) → HasNotMoved o list from 0
not-moved_none o list from to l = absurd (omega (arith, l))

pub not-moved_more : (o : Offices) (list : Listed) (from places : ℕ) → HasNotMoved o list from places → (from ≡ places) ⊎ (slice_get (names_in list o.old) from ≡ slice_get (names_in list o.new) places → ⊥) →
    HasNotMoved o list from (places + 1)
not-moved_more o list from places h n to l = elim (cases_eq to places) [
  | inl i ↦ (let P : ℕ → Type 0 = λ x. Differs o (change.Moved list from x) → ⊥ in subst P (sym i) (not-here o list from places n))
  | inr d ↦ h to (omega (arith, l, d))
]

pub not-moved_at_all : (o : Offices) (list : Listed) (from places : ℕ) → length (names_in list o.new) ≤ places → HasNotMoved o list from places → (to : ℕ) → Differs o (change.Moved list from to) → ⊥
not-moved_at_all o list from places l h to d =
    let k : to < length (names_in list o.new) = within (names_in list o.new) to d.0.0 d.0.2 in
    h to (omega (arith, l, k)) d

-- ---- all changes
pub adopts-all : (words : List Respelling) (last : Option ℕ) (o : Offices) (changes : List Change) → AreChanges o changes → AreAdopted words last o changes → Adopts words last o
adopts-all words last o changes are h c d = h c ((are.members c).1 d)

pub adopts-each : (words : List Respelling) (last : Option ℕ) (o : Offices) (changes : List Change) → AreChanges o changes → Adopts words last o → AreAdopted words last o changes
adopts-each words last o changes are h c m = h c ((are.members c).0 m)

-- one more of them
pub change-there : (o : Offices) (changes : List Change) (i : ℕ) (d : Change) → AreChanges o changes → i < length changes → Differs o (get_or changes i d)
change-there o changes i d are l = (are.members (get_or changes i d)).0 (at-member changes i (get_or changes i d) (at-some changes i d l))

pub adopted-more : (words : List Respelling) (last : Option ℕ) (o : Offices) (changes : List Change) (i : ℕ) (d : Change) → i < length changes → AreAdopted words last o (take i changes) →
    MayBeAdopted words last o (get_or changes i d) → AreAdopted words last o (take (i + 1) changes)
adopted-more words last o changes i d l h m = taken-each (MayBeAdopted words last o) changes i (get_or changes i d) (at-some changes i d l) h m
