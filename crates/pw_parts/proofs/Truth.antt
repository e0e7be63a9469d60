-- The parts of a set are one, and a content is true exactly where they tell it.
use Rattle.std.proofs.Common.{◌≡◌, ℕ, ◌<◌, Option, Some, List, ◌↔◌, refl, sym, ap, ◌∙◌, inl, inr, arith}
use Rattle.std.proofs.lemmas.Bool.{cases_lt}
use Rattle.pw_obis.specs.declared.reference.Register.{Register}
use Rattle.pw_tariff.specs.declared.ids.AccountId.{AccountId}
use Rattle.pw_tariff.specs.Office.{OfficeRules}
use Rattle.pw_model.specs.Kinds.{IsReading, IsAssignment}
use Rattle.pw_model.specs.declared.records.Content.TheVariants as content
use Rattle.pw_model.specs.declared.records.Contents.TheVariants.{One}
use Rattle.pw_model.specs.declared.records.Entry.{Entry}
use Rattle.pw_model.specs.declared.records.TotalKey.{TotalKey}
use Rattle.pw_model.specs.Counting.{Member, SameMembers, Counts, contents_at, point, start, reading_key, assignment_key}
use Rattle.pw_model.specs.Lists.{reading_entry}
use Rattle.pw_model.specs.Same.{key_numbers, total_numbers}
use Rattle.pw_model.specs.Shelf.{total_among}
use Rattle.pw_model.proofs.Answers.{counts-half}
use Rattle.pw_model.proofs.Counting.{one-is_counting}
use Rattle.pw_model.proofs.InOrder.{by-numbers, lists-one}
use Rattle.pw_model.proofs.Truth.{totals-same}
use Rattle.pw_parts.specs.declared.parts.Parts.{Parts}
use Rattle.pw_parts.specs.Parts.{IsPartsOf, by_key, by_total}
use Rattle.pw_parts.specs.Laws.{PartsAreAtMostOne, TrueExactlyWhereTold, assignment_entry}
use Rattle.pw_parts.proofs.Seconds.{wh-one, owner-one}
use Rattle.pw_parts.proofs.Whole.{options-same}

-- ---- at most one
back : {X : Type 0} (s t : List X) → SameMembers s t → SameMembers t s
back s t h x = ((h x).1, (h x).0)

counts-same : (s t : List Entry) → SameMembers s t → (Of : Entry → Type 0) (e : Entry) → (Counts s e × Of e) ↔ (Counts t e × Of e)
counts-same s t h Of e = (λ p. (counts-half s t h e p.0, p.1), λ p. (counts-half t s (back s t h) e p.0, p.1))

pub at-most_one : PartsAreAtMostOne
at-most_one office s t a b h p q = record {
  points = lists-one by_key (by-numbers (λ (e : Entry). key_numbers e.key)) (λ (e : Entry). Counts s e × IsReading e.key) (λ (e : Entry). Counts t e × IsReading e.key) (counts-same s t h (λ e. IsReading e.key)) a.points.items b.points.items p.points q.points;
  starts = lists-one by_key (by-numbers (λ (e : Entry). key_numbers e.key)) (λ (e : Entry). Counts s e × IsAssignment e.key) (λ (e : Entry). Counts t e × IsAssignment e.key) (counts-same s t h (λ e. IsAssignment e.key)) a.starts.items b.starts.items p.starts q.starts;
  totals = lists-one by_total (by-numbers (λ (x : TotalKey × ℕ). total_numbers x.0)) (λ (x : TotalKey × ℕ). (x.1 ≡ total_among office s x.0) × (0 < x.1)) (λ (x : TotalKey × ℕ). (x.1 ≡ total_among office t x.0) × (0 < x.1))
      (λ x. (λ m. (m.0 ∙ totals-same office s t h x.0, m.1), λ m. (m.0 ∙ sym (totals-same office s t h x.0), m.1))) a.totals.items b.totals.items p.totals q.totals;
}

-- ---- what the lists tell
module _ (office : OfficeRules) (s : List Entry) (parts : Parts) (p : IsPartsOf office s parts) where
  point-told : (m : ℕ) (r : Register) (t w : ℕ) → point (contents_at s) m r t ≡ Some w ↔ Member (reading_entry m r t w) parts.points.items
  point-told m r t w = (
    λ e. (p.points.members (reading_entry m r t w)).1 ((one-is_counting s (reading_entry m r t w) tt).0 (wh-one (contents_at s (reading_key m r t)) w e), tt),
    λ m2. (
        let one : contents_at s (reading_key m r t) ≡ One (content.Reading w) = (one-is_counting s (reading_entry m r t w) tt).1 ((p.points.members (reading_entry m r t w)).0 m2).0 in
        rw one refl),
  )

  start-told : (m t : ℕ) (o : Option AccountId) → start (contents_at s) m t ≡ Some o ↔ Member (assignment_entry m t o) parts.starts.items
  start-told m t o = (
    λ e. (p.starts.members (assignment_entry m t o)).1 ((one-is_counting s (assignment_entry m t o) tt).0 (owner-one (contents_at s (assignment_key m t)) o e), tt),
    λ m2. (
        let one : contents_at s (assignment_key m t) ≡ One (content.Assignment o) = (one-is_counting s (assignment_entry m t o) tt).1 ((p.starts.members (assignment_entry m t o)).0 m2).0 in
        rw one refl),
  )

  total-told : (k : TotalKey) (n : ℕ) → 0 < n → total_among office s k ≡ n ↔ Member (k, n) parts.totals.items
  total-told k n l = (λ e. (p.totals.members (k, n)).1 (sym e, l), λ m. sym ((p.totals.members (k, n)).0 m).0)

-- numbers that agree wherever one of them is above 0
numbers-same : (a b : ℕ) → (0 < a → b ≡ a) → (0 < b → a ≡ b) → a ≡ b
numbers-same a b h i =
    elim (cases_lt 0 a) [
      | inl l ↦ sym (h l)
      | inr l ↦ elim (cases_lt 0 b) [ inl k ↦ i k | inr k ↦ omega (arith, l, k) ]
    ]

pub exactly-told : TrueExactlyWhereTold
exactly-told office c parts p = (
  λ h. record {
    points = λ m r t w. (
        let e : c.point m r t ≡ point (contents_at c.records) m r t = ap (λ (f : ℕ → Register → ℕ → Option ℕ). f m r t) h.points in
        let b = point-told office c.records parts p m r t w in
        (λ q. b.0 (sym e ∙ q), λ q. e ∙ b.1 q));
    starts = λ m t o. (
        let e : c.start m t ≡ start (contents_at c.records) m t = ap (λ (f : ℕ → ℕ → Option (Option AccountId)). f m t) h.starts in
        let b = start-told office c.records parts p m t o in
        (λ q. b.0 (sym e ∙ q), λ q. e ∙ b.1 q));
    totals = λ k n l. (
        let b = total-told office c.records parts p k n l in
        (λ q. b.0 (sym (h.totals k) ∙ q), λ q. h.totals k ∙ b.1 q));
  },
  λ h. record {
    points = (
        let same : (m : ℕ) (r : Register) (t : ℕ) → c.point m r t ≡ point (contents_at c.records) m r t = λ m r t.
        options-same (c.point m r t) (point (contents_at c.records) m r t)
        (λ w. (λ q. (point-told office c.records parts p m r t w).1 ((h.points m r t w).0 q), λ q. (h.points m r t w).1 ((point-told office c.records parts p m r t w).0 q))) in
        λ i m r t. same m r t i);
    starts = (
        let same : (m t : ℕ) → c.start m t ≡ start (contents_at c.records) m t = λ m t.
        options-same (c.start m t) (start (contents_at c.records) m t)
        (λ o. (λ q. (start-told office c.records parts p m t o).1 ((h.starts m t o).0 q), λ q. (h.starts m t o).1 ((start-told office c.records parts p m t o).0 q))) in
        λ i m t. same m t i);
    totals = λ k. numbers-same (c.total k) (total_among office c.records k)
        (λ l. (total-told office c.records parts p k (c.total k) l).1 ((h.totals k (c.total k) l).0 refl))
        (λ l. (h.totals k (total_among office c.records k) l).1 ((total-told office c.records parts p k (total_among office c.records k) l).0 refl));
  },
)
