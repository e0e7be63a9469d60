-- The falls of all registers, one register behind the other.
use Rattle.std.proofs.Common.{◌≡◌, ℕ, ◌+◌, ◌*◌, ◌<◌, Option, Some, List, [], ◌∷◌, ◌++◌, ◌↔◌, ◌∙◌, ap, sym, subst, inl, inr, arith, Less}
use Rattle.pw_flow.specs.Flow.{AreNeighbours}
use Rattle.pw_obis.specs.declared.reference.Register.{Register}
use Rattle.pw_tariff.specs.declared.ids.MeterId.{MeterId}
use Rattle.pw_tariff.specs.Office.{OfficeRules, register_place}
use Rattle.pw_model.specs.declared.records.Content.TheVariants as content
use Rattle.pw_model.specs.declared.records.Entry.{Entry}
use Rattle.pw_model.specs.declared.records.Fall.{Fall}
use Rattle.pw_model.specs.Counting.{contents_at, point, reading_key}
use Rattle.pw_model.specs.Lists.{Lists, IsFall, fall_order, fall_numbers, AreFalls}
use Rattle.pw_model.specs.Office.{AllOfOffice, IsOfOffice}
use Rattle.pw_model.specs.Shelf.{IsTrueContent, ShelfContent}
use Rattle.pw_model.proofs.Counting.{entry}
use Rattle.pw_model.proofs.Found.{point-member}
use Rattle.pw_model.proofs.Same.{register-one}
use Rattle.pw_book.specs.inner.Counted.{IsFallOf}
use Rattle.pw_book.specs.inner.Places.{FallsBefore, TellsPoints, fall_place}
use Rattle.pw_model.specs.Seconds.{ListsSeconds}
use Rattle.pw_shelf.specs.Seconds.{ListsSecondsWithin}
use Rattle.pw_time.specs.declared.instant.TheConstants.{FIRST_SECOND, LAST_SECOND}
use Rattle.pw_time.specs.Instants.{IsInstant}
use Rattle.pw_book.proofs.Segments.{segment-more, segment-all, first-less, then-less, place-few, places-split, places-same}

-- the falls of one register are those at its place
of-register : (s : List Entry) (m : MeterId) (r : Register) → (f : Fall) → IsFallOf m r (point (contents_at s) m.0 r) f ↔ (IsFall (contents_at s) f × ((f.meter ≡ m) × (f.register ≡ r)))
of-register s m r f = (
  λ h. (
    (let P : MeterId → Register → Type 0 = λ n q. AreNeighbours (point (contents_at s) n.0 q) f.from f.high f.to f.low in
        let there : P f.meter f.register = subst (λ (q : Register). P f.meter q) (sym h.register) (subst (λ (n : MeterId). P n r) (sym h.meter) h.neighbours) in
        record { neighbours = there; lower = h.lower }),
    (h.meter, h.register),
  ),
  λ h.
      let P : MeterId → Register → Type 0 = λ n q. AreNeighbours (point (contents_at s) n.0 q) f.from f.high f.to f.low in
      let there : P m r = subst (λ (q : Register). P m q) h.1.1 (subst (λ (n : MeterId). P n f.register) h.1.0 h.0.neighbours) in
      record { meter = h.1.0; register = h.1.1; neighbours = there; lower = h.0.lower },
)

abbrev meter : ℕ → MeterId
meter n = record { 0 = n }

at-place : (m : MeterId) (r : Register) (f : Fall) → ((f.meter ≡ m) × (f.register ≡ r)) ↔ (fall_place f ≡ 6 * m.0 + register_place r)
at-place m r f = (
  λ h. (let a : f.meter.0 ≡ m.0 = ap (λ (n : MeterId). n.0) h.0 in let b : register_place f.register ≡ register_place r = ap register_place h.1 in omega (arith, a, b)),
  λ e. (let p = places-same f.meter.0 m.0 (register_place f.register) (register_place r) (place-few f.register) (place-few r) e in (ap meter p.0, register-one f.register r p.1)),
)

fall-before : (f g : Fall) → fall_place f < fall_place g → fall_order f g ≡ Less
unfolding fall_numbers
fall-before f g l = elim (places-split f.meter.0 g.meter.0 (register_place f.register) (register_place g.register) (place-few f.register) (place-few g.register) l) [
  | inl h ↦ first-less f.meter.0 g.meter.0 (register_place f.register ∷ f.from ∷ f.high ∷ f.to ∷ f.low ∷ []) (register_place g.register ∷ g.from ∷ g.high ∷ g.to ∷ g.low ∷ []) h
  | inr h ↦ then-less f.meter.0 g.meter.0 (register_place f.register ∷ f.from ∷ f.high ∷ f.to ∷ f.low ∷ []) (register_place g.register ∷ g.from ∷ g.high ∷ g.to ∷ g.low ∷ []) h.0
      (first-less (register_place f.register) (register_place g.register) (f.from ∷ f.high ∷ f.to ∷ f.low ∷ []) (g.from ∷ g.high ∷ g.to ∷ g.low ∷ []) h.1)
]

pub falls-more : (s : List Entry) (m : MeterId) (r : Register) (old more : List Fall) → FallsBefore s (6 * m.0 + register_place r) old → Lists fall_order (IsFallOf m r (point (contents_at s) m.0 r)) more →
    FallsBefore s (6 * m.0 + register_place r + 1) (old ++ more)
falls-more s m r old more a b =
    segment-more fall_order (IsFall (contents_at s)) (λ f. (f.meter ≡ m) × (f.register ≡ r)) fall_place (6 * m.0 + register_place r) old more a
    (record { rising = b.rising; members = λ f. (λ k. (of-register s m r f).0 ((b.members f).0 k), λ k. (b.members f).1 ((of-register s m r f).1 k)) })
    (λ f h. at-place m r f)
    (λ f g h k l. fall-before f g l)

pub falls-all : (office : OfficeRules) (s : List Entry) (falls : List Fall) → AllOfOffice office s → FallsBefore s (6 * office.meters) falls → AreFalls s falls
falls-all office s falls o a = segment-all fall_order (IsFall (contents_at s)) fall_place (6 * office.meters) falls a (λ f h.
    let first : point (contents_at s) f.meter.0 f.register f.from ≡ Some f.high = h.neighbours.first in
    let e : Entry = entry (reading_key f.meter.0 f.register f.from) (content.Reading f.high) in
    let within : IsOfOffice office e = o e (point-member s f.meter.0 f.register f.from f.high first) in
    let l = within.0 in
    let p = place-few f.register in
    omega (arith, l, p))

pub falls-at : (s : List Entry) (m n : ℕ) (falls : List Fall) → m ≡ n → FallsBefore s m falls → FallsBefore s n falls
falls-at s m n falls e a = let F : ℕ → Type 0 = λ k. FallsBefore s k falls in subst F e a

-- a step over what a shelf tells: its content is as it was
pub falls-next : (was now : ShelfContent) (from to after next : ℕ) (old new : List Fall) → now ≡ was → to ≡ from → after ≡ next → TellsPoints was → FallsBefore was.records from old →
    (TellsPoints now → FallsBefore now.records to old → FallsBefore now.records after new) → FallsBefore was.records next new
falls-next was now from to after next old new e p q o b h =
    let B : ShelfContent → Type 0 = λ c. FallsBefore c.records to old in
    let C : ShelfContent → Type 0 = λ c. FallsBefore c.records after new in
    falls-at was.records after next new q (subst C e (h (subst TellsPoints (sym e) o) (subst B (sym e) (falls-at was.records from to old (sym p) b))))

-- ---- the points of a register
-- a true content tells them
pub tells-points : (office : OfficeRules) (c : ShelfContent) → AllOfOffice office c.records → IsTrueContent office c → TellsPoints c
tells-points office c o t = record {
  points = t.points;
  instants = λ m r u w e.
      let h : point (contents_at c.records) m r u ≡ Some w = ap (λ (p : ℕ → Register → ℕ → Option ℕ). p m r u) (sym t.points) ∙ e in
      let i : IsOfOffice office (entry (reading_key m r u) (content.Reading w)) = o (entry (reading_key m r u) (content.Reading w)) (point-member c.records m r u w h) in
      i.2;
}

-- those between the first and the last instant are all of them
pub whole-listed : (told : ℕ → Option ℕ) (points : List (ℕ × ℕ)) → ((t w : ℕ) → told t ≡ Some w → IsInstant t) → ListsSecondsWithin FIRST_SECOND LAST_SECOND told points → ListsSeconds told points
whole-listed told points i l = record {
  rising = l.rising;
  members = λ a. (λ m. ((l.members a).0 m).2, λ e. (let h = i a.0 a.1 e in (l.members a).1 (h.0, h.1, e)));
}
