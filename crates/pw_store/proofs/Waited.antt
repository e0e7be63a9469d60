-- What a store holds while points wait.
use Rattle.std.proofs.Common.{◌≡◌, ◌≢◌, ◌<◌, ◌≤◌, ◌⊎◌, inl, inr, ℕ, Bool, true, false, Option, Some, None, Result, Ok, Err, OnOk, List, [], ◌∷◌, ◌++◌, ◌+◌, length, take, get_or, refl, sym, ap, subst, ◌∙◌, arith}
use Rattle.std.proofs.lemmas.Bool.{cases_Bool}
use Rattle.std.proofs.lemmas.List.{take_more}
use Rattle.arrayvec.specs.ArrayVec.{ArrayVec}
use Rattle.pw_obis.specs.declared.reference.Register.{Register}
use Rattle.pw_tariff.specs.declared.ids.MeterId.{MeterId}
use Rattle.pw_model.specs.Counting.{reading_key}
use Rattle.pw_model.specs.Same.{same_key}
use Rattle.pw_model.specs.Shelf.{ShelfContent}
use Rattle.pw_model.specs.declared.records.Entry.{Entry}
use Rattle.pw_model.proofs.Same.{same_key-decides}
use Rattle.pw_shelf.specs.Changes.{with_point}
use Rattle.pw_shelf.specs.Seconds.{ListsSecondsWithin}
use Rattle.pw_shelf.specs.State.{IsWithRecord}
use Rattle.pw_store.specs.Waiting.{NoneWaits, Points, points_over, with_one, with_waiting}
use Rattle.pw_store.specs.declared.points.Side.{Side}
use Rattle.pw_store.specs.declared.points.Side.TheVariants.{Before, Behind}
use Rattle.pw_store.specs.declared.waiting.WaitingPoint.{WaitingPoint}
use Rattle.pw_store.specs.inner.Seconds.{IsFarther, IsNearer, IsNearest, NoneWithin}
use Rattle.pw_store.proofs.Finding.{meter_of, register_of, second_of}

-- ---- one more, and none
over_more : (waiting : List WaitingPoint) (p : WaitingPoint) (points : Points) → points_over (waiting ++ p ∷ []) points ≡ with_one (points_over waiting points) p
over_more [] p points = refl
over_more (q ∷ waiting) p points = over_more waiting p (with_one points q)

pub one_more : (waiting all : List WaitingPoint) (p : WaitingPoint) (c : ShelfContent) → all ≡ waiting ++ p ∷ [] → with_waiting all c ≡ with_point (with_waiting waiting c) p.meter.0 p.register p.instant (Some p.wh)
one_more waiting all p c is = ap (λ all. with_waiting all c) is ∙ ap (λ (points : Points). record c { point = points }) (over_more waiting p c.point)

none_of : (waiting : List WaitingPoint) → length waiting ≡ 0 → waiting ≡ []
none_of [] few = refl
none_of (p ∷ waiting) few = absurd (omega (arith, few))

pub with_none : (waiting : List WaitingPoint) (c : ShelfContent) → length waiting ≡ 0 → with_waiting waiting c ≡ c
with_none waiting c few = ap (λ waiting. with_waiting waiting c) (none_of waiting few)

pub begun_waits : (begun : Bool) (waiting : List WaitingPoint) → begun ≡ true → NoneWaits begun waiting
begun_waits begun waiting is not = absurd (let bad : true ≡ false = sym is ∙ not in cc)

pub waits_begun : (begun : Bool) (waiting : List WaitingPoint) → NoneWaits begun waiting → length waiting ≢ 0 → begun ≡ true
waits_begun true waiting none some = refl
waits_begun false waiting none some = absurd (some (none refl))

-- ---- what is written changes beneath
pub over_same : (now was : ArrayVec WaitingPoint) (new old : ShelfContent) → now ≡ was → new ≡ old → with_waiting now.items new ≡ with_waiting was.items old
over_same now was new old a b = λ i. with_waiting (a i).items (b i)

pub over_if : {A E : Type 0} (r : Result A E) (now was : ArrayVec WaitingPoint) (new old : ShelfContent) → now ≡ was → OnOk r (new ≡ old) → OnOk r (with_waiting now.items new ≡ with_waiting was.items old)
over_if (Ok a) now was new old same h = over_same now was new old same h
over_if (Err e) now was new old same h = tt

pub record_over : (waiting : List WaitingPoint) (e : Entry) (old new : ShelfContent) → IsWithRecord old e new → IsWithRecord (with_waiting waiting old) e (with_waiting waiting new)
record_over waiting e old new h = record { records = h.records; point = ap (points_over waiting) h.point; start = h.start; total = h.total }

-- ---- with an answer
pub written_if : {A E : Type 0} (r : Result A E) (waiting : List WaitingPoint) (x y z : ShelfContent) → OnOk r (x ≡ with_waiting waiting y) → y ≡ z → OnOk r (x ≡ with_waiting waiting z)
written_if (Ok a) waiting x y z h same = h ∙ ap (with_waiting waiting) same
written_if (Err e) waiting x y z h same = tt

-- what waited is written, and nothing waits any more
pub written_out : {A E : Type 0} (r : Result A E) (left points waiting : List WaitingPoint) (x y : ShelfContent) → left ≡ [] → points ≡ waiting → OnOk r (x ≡ with_waiting points y) → OnOk r (with_waiting left x ≡ with_waiting waiting y)
written_out (Ok a) left points waiting x y none same h = ap (λ left. with_waiting left x) none ∙ h ∙ ap (λ points. with_waiting points y) same
written_out (Err e) left points waiting x y none same h = tt

-- ---- at a key
-- it is of a register
abbrev pub IsOf : WaitingPoint → MeterId → Register → Type 0
IsOf p m r = (p.meter ≡ m) × (p.register ≡ r)

same_here : (p : WaitingPoint) (m : MeterId) (r : Register) (points : Points) → IsOf p m r → with_one points p m.0 r p.instant ≡ Some p.wh
same_here p m r points of =
    let here : reading_key p.meter.0 p.register p.instant ≡ reading_key m.0 r p.instant = λ i. reading_key (of.0 i).0 (of.1 i) p.instant in
    rw ((same_key-decides (reading_key p.meter.0 p.register p.instant) (reading_key m.0 r p.instant)).1 here) refl

apart_there : (p : WaitingPoint) (m : MeterId) (r : Register) (t : ℕ) (points : Points) → (IsOf p m r → p.instant ≡ t → ⊥) → with_one points p m.0 r t ≡ points m.0 r t
apart_there p m r t points apart = elim (cases_Bool (same_key (reading_key p.meter.0 p.register p.instant) (reading_key m.0 r t))) [
  | inl up ↦ absurd (let same = (same_key-decides (reading_key p.meter.0 p.register p.instant) (reading_key m.0 r t)).0 up in apart (meter_is (ap meter_of same), ap register_of same) (ap second_of same))
  | inr down ↦ rw down refl
]
  where
    meter_is : p.meter.0 ≡ m.0 → p.meter ≡ m
    meter_is e = λ i. record { 0 = e i }

-- what is told between two seconds
pub within_same : (from to : ℕ) (told over : ℕ → Option ℕ) (found : List (ℕ × ℕ)) → ((t : ℕ) → from ≤ t → t ≤ to → over t ≡ told t) → ListsSecondsWithin from to told found → ListsSecondsWithin from to over found
within_same from to told over found same lists = record {
  rising = lists.rising;
  members = λ x. (
    λ m. (let it = (lists.members x).0 m in (it.0, it.1, same x.0 it.0 it.1 ∙ it.2)),
    λ it. (lists.members x).1 (it.0, it.1, sym (same x.0 it.0 it.1) ∙ it.2),
  );
}

-- ---- one more of a list
module _ (waiting : List WaitingPoint) (i : ℕ) (p : WaitingPoint) (is : p ≡ get_or waiting i p) (lt : i < length waiting) where
  take_one : (points : Points) → points_over (take (i + 1) waiting) points ≡ with_one (points_over (take i waiting) points) p
  take_one points =
      ap (λ some. points_over some points) (take_more waiting i p lt) ∙ over_more (take i waiting) (get_or waiting i p) points
      ∙ ap (with_one (points_over (take i waiting) points)) (sym is)

  pub written_more : (c : ShelfContent) → with_waiting (take (i + 1) waiting) c ≡ with_waiting (p ∷ []) (with_waiting (take i waiting) c)
  written_more c = ap (λ (points : Points). record c { point = points }) (take_one c.point)

  pub within_more : (m : MeterId) (r : Register) (from to : ℕ) → (IsOf p m r → (from ≤ p.instant) × (p.instant ≤ to) → ⊥) → NoneWithin (take i waiting) m.0 r from to → NoneWithin (take (i + 1) waiting) m.0 r from to
  within_more m r from to apart none points t low high =
      ap (λ (told : Points). told m.0 r t) (take_one points)
      ∙ apart_there p m r t (points_over (take i waiting) points) (λ of at. apart of (subst (λ s. from ≤ s) (sym at) low, subst (λ s. s ≤ to) (sym at) high))
      ∙ none points t low high

  pub nearest_more : (m : MeterId) (r : Register) (side : Side) (points : Points) (found : Option (ℕ × ℕ)) → IsNearest side (with_one (points_over (take i waiting) points) p m.0 r) found
      → IsNearest side (points_over (take (i + 1) waiting) points m.0 r) found
  nearest_more m r side points found near = subst (λ (told : Points). IsNearest side (told m.0 r) found) (sym (take_one points)) near

-- four, as they were taken out of a list
pub four_of : (waiting : List WaitingPoint) (p q r s : WaitingPoint) → 4 ≤ length waiting → length waiting < 5 → p ≡ get_or waiting 0 p → q ≡ get_or waiting 1 q → r ≡ get_or waiting 2 r → s ≡ get_or waiting 3 s → p ∷ q ∷ r ∷ s ∷ [] ≡ waiting
four_of [] p q r s low high a b c d = absurd (omega (arith, low))
four_of (w ∷ []) p q r s low high a b c d = absurd (omega (arith, low))
four_of (w ∷ x ∷ []) p q r s low high a b c d = absurd (omega (arith, low))
four_of (w ∷ x ∷ y ∷ []) p q r s low high a b c d = absurd (omega (arith, low))
four_of (w ∷ x ∷ y ∷ z ∷ []) p q r s low high a b c d = λ i. a i ∷ b i ∷ c i ∷ d i ∷ []
four_of (w ∷ x ∷ y ∷ z ∷ v ∷ waiting) p q r s low high a b c d = absurd (omega (arith, high))

same_or_apart : (p : WaitingPoint) (m : MeterId) (r : Register) → IsOf p m r ⊎ (IsOf p m r → ⊥)
same_or_apart p m r = elim (cases_Bool (same_key (reading_key p.meter.0 p.register 0) (reading_key m.0 r 0))) [
  | inl up ↦ (let same = (same_key-decides (reading_key p.meter.0 p.register 0) (reading_key m.0 r 0)).0 up in inl (λ i. record { 0 = ap meter_of same i }, ap register_of same))
  | inr down ↦ inr (λ of. (let bad : true ≡ false = sym ((same_key-decides (reading_key p.meter.0 p.register 0) (reading_key m.0 r 0)).1 (λ i. reading_key (of.0 i).0 (of.1 i) 0)) ∙ down in cc))
]

-- ---- the nearest on a side
module _ (told over : ℕ → Option ℕ) (x w : ℕ) (here : over x ≡ Some w) (there : (t : ℕ) → (x ≡ t → ⊥) → over t ≡ told t) where
  stays_before : (t : ℕ) (found : Option (ℕ × ℕ)) → IsFarther (Before t) x found → IsNearest (Before t) told found → IsNearest (Before t) over found
  stays_before t None far near = λ s lt. there s (λ e. absurd (omega (arith, e, far, lt))) ∙ near s lt
  stays_before t (Some a) far near =
      let before = near.before in
      record {
        here = there a.0 (λ e. elim far [ inl off ↦ omega (arith, e, off, before) | inr less ↦ omega (arith, e, less) ]) ∙ near.here;
        before = near.before;
        between = λ s lt up. there s (λ e. elim far [ inl off ↦ omega (arith, e, off, up) | inr less ↦ omega (arith, e, less, lt) ]) ∙ near.between s lt up;
      }

  stays_behind : (t : ℕ) (found : Option (ℕ × ℕ)) → IsFarther (Behind t) x found → IsNearest (Behind t) told found → IsNearest (Behind t) over found
  stays_behind t None far near = λ s lt. there s (λ e. absurd (omega (arith, e, far, lt))) ∙ near s lt
  stays_behind t (Some a) far near =
      let behind = near.behind in
      record {
        here = there a.0 (λ e. elim far [ inl off ↦ omega (arith, e, off, behind) | inr more ↦ omega (arith, e, more) ]) ∙ near.here;
        behind = near.behind;
        between = λ s lt up. there s (λ e. elim far [ inl off ↦ omega (arith, e, off, lt) | inr more ↦ omega (arith, e, more, up) ]) ∙ near.between s lt up;
      }

  pub stays : (side : Side) (found : Option (ℕ × ℕ)) → IsFarther side x found → IsNearest side told found → IsNearest side over found
  stays (Before t) = stays_before t
  stays (Behind t) = stays_behind t

  takes_before : (t : ℕ) (found : Option (ℕ × ℕ)) → IsNearer (Before t) x found → IsNearest (Before t) told found → IsNearest (Before t) over (Some (x, w))
  takes_before t None near none = record { here = here; before = near; between = λ s lt up. there s (λ e. absurd (omega (arith, e, lt))) ∙ none s up }
  takes_before t (Some a) near was =
      let low = near.1 in
      record { here = here; before = near.0; between = λ s lt up. there s (λ e. absurd (omega (arith, e, lt))) ∙ was.between s (omega (arith, low, lt)) up }

  takes_behind : (t : ℕ) (found : Option (ℕ × ℕ)) → IsNearer (Behind t) x found → IsNearest (Behind t) told found → IsNearest (Behind t) over (Some (x, w))
  takes_behind t None near none = record { here = here; behind = near; between = λ s lt up. there s (λ e. absurd (omega (arith, e, up))) ∙ none s lt }
  takes_behind t (Some a) near was =
      let high = near.1 in
      record { here = here; behind = near.0; between = λ s lt up. there s (λ e. absurd (omega (arith, e, up))) ∙ was.between s lt (omega (arith, high, up)) }

  pub takes : (side : Side) (found : Option (ℕ × ℕ)) → IsNearer side x found → IsNearest side told found → IsNearest side over (Some (x, w))
  takes (Before t) = takes_before t
  takes (Behind t) = takes_behind t

module _ (p : WaitingPoint) (m : MeterId) (r : Register) (points : Points) (side : Side) (found : Option (ℕ × ℕ)) (near : IsNearest side (points m.0 r) found) where
  pub nearer_taken : IsOf p m r → IsNearer side p.instant found → IsNearest side (with_one points p m.0 r) (Some (p.instant, p.wh))
  nearer_taken of closer = takes (points m.0 r) (with_one points p m.0 r) p.instant p.wh (same_here p m r points of) (λ t apart. apart_there p m r t points (λ _. apart)) side found closer near

  pub farther_stays : (IsOf p m r → IsFarther side p.instant found) → IsNearest side (with_one points p m.0 r) found
  farther_stays far = elim (same_or_apart p m r) [
    | inl of ↦ stays (points m.0 r) (with_one points p m.0 r) p.instant p.wh (same_here p m r points of) (λ t apart. apart_there p m r t points (λ _. apart)) side found (far of) near
    | inr other ↦ (let same : with_one points p m.0 r ≡ points m.0 r = λ i t. apart_there p m r t points (λ of. absurd (other of)) i in
        subst (λ (told : ℕ → Option ℕ). IsNearest side told found) (sym same) near)
  ]
