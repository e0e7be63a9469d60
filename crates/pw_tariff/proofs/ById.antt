-- Meters in a map by their ids.
use Rattle.std.proofs.Common.{◌≡◌, ℕ, ◌+◌, ◌<◌, Option, Some, None, slice_get, option_map, List, [], length, get_or, string_bytes, Global, Vec, Bool, true, false, refl, sym, ap, subst, ◌∙◌, arith, inl, inr, map, IsSome, IfSome, IfNone}
use Rattle.std.specs.BTreeMap.{BTreeMap, UpdatesBy, is_at}
use Rattle.std.specs.Map.{lookup, KeepsOthers, IsKeyTest, AreApart}
use Rattle.std.specs.Cmp.{eq_by_cmp_equiv}
use Rattle.std.specs.Cmp.Lexicographic.{slice_cmp, nat_list_cmp_total, nat_list_eq_equiv}
use Rattle.std.specs.Ordering.{is_eq, nat_cmp, eq_by_cmp}
use Rattle.std.specs.Str.{bytes_eq}
use Rattle.std.proofs.lemmas.Bool.{cases_Bool, cases_lt}
use Rattle.std.proofs.lemmas.Map.Text.{is_eq-slice_cmp}
use Rattle.std.proofs.lemmas.Option.{slice_get_read, slice_get_past, slice_get-map, none-some, same_Some}
use Rattle.std.proofs.lemmas.Slice.Eq.{bytes_eq-Decides}
use Rattle.pw_tariff.specs.declared.ids.MeterId.{MeterId}
use Rattle.pw_tariff.specs.declared.office.Meter.{Meter}
use Rattle.pw_tariff.specs.Held.{AreById, AreByIdUpTo, id_at, meter_of, place_of}
use Rattle.pw_tariff.specs.Office.{MeterText, AreDistinct, ids}
use Rattle.pw_tariff.proofs.Named.{id-of}

abbrev Places : Type 0
Places = BTreeMap (Vec ℕ Global) MeterId

abbrev query : List ℕ → Vec ℕ Global → Bool
query id = is_at (λ (k : Vec ℕ Global). slice_cmp nat_cmp id k.items)

-- the map has a place at an id, and what it had at any other
abbrev IsPut : List ℕ → MeterId → Places → Places → Type 0
IsPut id place old new = UpdatesBy (λ (x y : Vec ℕ Global). slice_cmp nat_cmp x.items y.items) (λ (k : Vec ℕ Global). slice_cmp nat_cmp id k.items) old new (Some place)

no-truth : false ≡ true → ⊥
no-truth h = cc

apart : (a b c : List ℕ) → bytes_eq a b ≡ false → is_eq (slice_cmp nat_cmp a c) ≡ true → is_eq (slice_cmp nat_cmp b c) ≡ false
apart a b c n y =
    let same : bytes_eq a c ≡ true = sym (is_eq-slice_cmp a c) ∙ y in
    is_eq-slice_cmp b c ∙ nat_list_eq_equiv.symm b c ∙ sym (nat_list_eq_equiv.congr a c b same) ∙ n

kept : (eq : Vec ℕ Global → Vec ℕ Global → Bool) (test : Vec ℕ Global → Bool) (old new : List (Vec ℕ Global × MeterId)) → KeepsOthers eq test old new →
    (other : Vec ℕ Global → Bool) → IsKeyTest eq other → AreApart test other → lookup other new ≡ lookup other old
unfolding KeepsOthers
kept eq test old new h = h

other : (id : List ℕ) (place : MeterId) (old new : Places) → IsPut id place old new → (b : List ℕ) → bytes_eq id b ≡ false → place_of new b ≡ place_of old b
other id place old new h b n =
    kept (eq_by_cmp (λ (x y : Vec ℕ Global). slice_cmp nat_cmp x.items y.items)) (query id) old.entries new.entries h.3 (query b)
    (λ x y. (eq_by_cmp_equiv nat_list_cmp_total).congr b x.items y.items) (λ k. apart id b k.items n)

is-there : (o : Option MeterId) (place : MeterId) → o ≡ Some place → IsSome o
is-there None place h = absurd (none-some place h)
is-there (Some x) place h = refl

pub none-yet : (meters : List Meter) (places : Places) → places.entries ≡ [] → AreByIdUpTo meters 0 places
none-yet meters places e = record {
  each = λ i id b h. absurd (omega (arith, b));
  there = λ id meter h. absurd (none-some meter (rw e at h));
}

-- with one meter more
pub one-more : (meters : List Meter) (i : ℕ) (meter : Meter) (own : List ℕ) (place : MeterId) (old new : Places) → i < length meters → meter ≡ get_or meters i meter →
    string_bytes meter.id ≡ own → place.0 ≡ i → IsPut own place old new → AreByIdUpTo meters i old → AreByIdUpTo meters (i + 1) new
one-more meters i meter own place old new l e o p h before =
    let here : id_at meters i ≡ Some own = rw (slice_get_read meters (length meters) i meter refl l e) (ap Some o) in
    let found : place_of new own ≡ Some place = h.1 in
    record {
      each = λ j id b k. elim (cases_Bool (bytes_eq own id)) [
        | inl y ↦ is-there (place_of new id) place (subst (λ (x : List ℕ). place_of new x ≡ Some place) ((bytes_eq-Decides own id).0 y) found)
        | inr n ↦ elim (cases_lt j i) [
          | inl s ↦ subst (λ (o : Option MeterId). IsSome o) (sym (other own place old new h id n)) (before.each j id s k)
          | inr s ↦ (
              let same : j ≡ i = omega (arith, b, s) in
              let is : own ≡ id = same_Some own id (sym here ∙ rw same at k) in
              absurd (no-truth (sym n ∙ (bytes_eq-Decides own id).1 is)))
        ]
      ];
      there = λ id m k. elim (cases_Bool (bytes_eq own id)) [
        | inl y ↦ (
            let is : own ≡ id = (bytes_eq-Decides own id).0 y in
            let at : place_of new id ≡ Some place = subst (λ (x : List ℕ). place_of new x ≡ Some place) is found in
            let same : place ≡ m = same_Some place m (sym at ∙ k) in
            rw (← same, p) (here ∙ ap Some is))
        | inr n ↦ before.there id m (sym (other own place old new h id n) ∙ k)
      ];
    }

-- what is found at an id
pub found-some : (meters : List Meter) (places : Places) (id : List ℕ) (found : Option MeterId) → AreById meters places → found ≡ place_of places id →
    IfSome found (λ m. option_map (λ (t : MeterText). t.id) (slice_get (map meter_of meters) m.0) ≡ Some id)
found-some meters places id None all e = tt
found-some meters places id (Some m) all e = id-of meters m.0 ∙ all.there id m (sym e)

pub found-only : (meters : List Meter) (places : Places) (id : List ℕ) (found : Option MeterId) → AreById meters places → AreDistinct (ids (map meter_of meters)) → found ≡ place_of places id →
    IfSome found (λ m. (i : ℕ) → option_map (λ (t : MeterText). t.id) (slice_get (map meter_of meters) i) ≡ Some id → i ≡ m.0)
found-only meters places id None all d e = tt
found-only meters places id (Some m) all d e = λ i h.
    let own = λ (k : ℕ). slice_get-map (λ (t : MeterText). t.id) (map meter_of meters) k in
    d i m.0 id (own i ∙ h) (own m.0 ∙ id-of meters m.0 ∙ all.there id m (sym e))

pub found-none : (meters : List Meter) (places : Places) (id : List ℕ) (found : Option MeterId) → AreById meters places → found ≡ place_of places id →
    IfNone found ((i : ℕ) → option_map (λ (t : MeterText). t.id) (slice_get (map meter_of meters) i) ≡ Some id → ⊥)
found-none meters places id (Some m) all e = tt
found-none meters places id None all e = λ i h.
    let here : id_at meters i ≡ Some id = sym (id-of meters i) ∙ h in
    elim (cases_lt i (length meters)) [
      | inl b ↦ (let s : IsSome (place_of places id) = all.each i id b here in no-truth (rw (← e) at s))
      | inr b ↦ (let r : slice_get meters i ≡ None = slice_get_past meters i (omega arith) in none-some id (rw r at here))
    ]
