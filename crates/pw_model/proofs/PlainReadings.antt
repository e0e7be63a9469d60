-- The rows of a register's readings that the plain program finds.
use Rattle.std.proofs.Common.{◌≡◌, ◌↔◌, ℕ, ◌+◌, ◌≤◌, Bool, IsTrue, List, [], ◌∷◌, ◌++◌, length, drop, refl, ap, sym, subst, ◌∙◌, inl, inr}
use Rattle.std.proofs.lemmas.Cmp.{nat_cmp_total, tied_itself}
use Rattle.std.specs.Cmp.{both_ways}
use Rattle.std.specs.Ordering.{nat_cmp, ordering_then}
use Rattle.std.specs.declared.cmp.Ordering.{Ordering}
use Rattle.std.specs.declared.cmp.Ordering.TheVariants.{Less, Equal, Greater}
use Rattle.pw_obis.specs.declared.reference.Register.{Register}
use Rattle.pw_tariff.specs.Office.{register_place}
use Rattle.pw_model.specs.declared.records.Key.TheVariants as key
use Rattle.pw_model.specs.declared.records.Content.TheVariants as content
use Rattle.pw_model.specs.declared.records.Entry.{Entry}
use Rattle.pw_model.specs.declared.records.ReadingRow.{ReadingRow}
use Rattle.pw_model.specs.Same.{entry_order, key_numbers, content_numbers}
use Rattle.pw_model.specs.Counting.{Member, is_withdrawn, Counts}
use Rattle.pw_model.specs.Lists.{IsInOrder, reading_order, reading_numbers, reading_entry, AreReadings}
use Rattle.pw_model.specs.inner.Search.{IsAt, IsRowOf, RowsOf, AreSorted}
use Rattle.pw_model.proofs.InOrder.{before-member}
use Rattle.pw_model.proofs.EntryOrder.{before-all}
use Rattle.pw_model.proofs.Places.{drop-at, rising-drop}
use Rattle.pw_model.proofs.SoFar.{IsSoFar, so-far-more, so-far-skip, so-far-all}

abbrev row : ℕ → ℕ → Bool → Bool → ReadingRow
row t w c v = record { instant = t; wh = w; counted = c; withdrawn = v }

abbrev entry_of : ℕ → Register → ReadingRow → Entry
entry_of m r a = reading_entry m r a.instant a.wh

pub rows-one : (s l : List Entry) (m : ℕ) (r : Register) (a b : ReadingRow) → entry_of m r a ≡ entry_of m r b → (IsTrue a.counted ↔ Counts s (entry_of m r a)) → (IsTrue b.counted ↔ Counts s (entry_of m r b)) →
    a.withdrawn ≡ is_withdrawn l (entry_of m r a) → b.withdrawn ≡ is_withdrawn l (entry_of m r b) → a ≡ b
rows-one s l m r a b h p q x y =
    let k : key.Reading (record { 0 = m }) r a.instant ≡ key.Reading (record { 0 = m }) r b.instant = ap (λ (e : Entry). e.key) h in
    let c : content.Reading a.wh ≡ content.Reading b.wh = ap (λ (e : Entry). e.content) h in
    let t : a.instant ≡ b.instant = cc in
    let w : a.wh ≡ b.wh = cc in
    let P : Entry → Type 0 = λ e. Counts s e in
    let d : a.counted ≡ b.counted = both_ways a.counted b.counted (λ i. q.1 (subst P h (p.0 i))) (λ i. p.1 (subst P (sym h) (q.0 i))) in
    let v : a.withdrawn ≡ b.withdrawn = x ∙ ap (is_withdrawn l) h ∙ sym y in
    λ i. row (t i) (w i) (d i) (v i)

less-then : (a b c d : Ordering) → a ≡ Equal → b ≡ Equal → ordering_then (ordering_then a (ordering_then b (ordering_then c Equal))) (ordering_then d Equal) ≡ Less → ordering_then c (ordering_then d Equal) ≡ Less
less-then Equal Equal Less d i j h = refl
less-then Equal Equal Greater d i j h = cc
less-then Equal Equal Equal d i j h = h
less-then Less b c d i j h = cc
less-then Greater b c d i j h = cc
less-then Equal Less c d i j h = cc
less-then Equal Greater c d i j h = cc

entry-first : (m : ℕ) (r : Register) (a b : ReadingRow) → entry_order (entry_of m r a) (entry_of m r b) ≡ Less → reading_order a b ≡ Less
unfolding key_numbers content_numbers reading_numbers
entry-first m r a b h =
    less-then (nat_cmp m m) (nat_cmp (register_place r) (register_place r)) (nat_cmp a.instant b.instant) (nat_cmp a.wh b.wh) (tied_itself nat_cmp_total m) (tied_itself nat_cmp_total (register_place r)) h

counted-so : (s l : List Entry) (m : ℕ) (r : Register) (e : Entry) (a : ReadingRow) → IsRowOf s l m r e a → IsTrue a.counted ↔ Counts s (entry_of m r a)
counted-so s l m r e a h = let P : Entry → Type 0 = λ v. IsTrue a.counted ↔ Counts s v in subst P h.reading h.counted

withdrawn-so : (s l : List Entry) (m : ℕ) (r : Register) (e : Entry) (a : ReadingRow) → IsRowOf s l m r e a → a.withdrawn ≡ is_withdrawn l (entry_of m r a)
withdrawn-so s l m r e a h = h.withdrawn ∙ ap (is_withdrawn l) h.reading

pub rows-more : (s t : List Entry) (m : ℕ) (r : Register) (e : Entry) (some others : List Entry) (a : ReadingRow) (as_ bs : List ReadingRow) → some ≡ e ∷ others → IsInOrder entry_order some → bs ≡ a ∷ as_ →
    IsRowOf s t m r e a → RowsOf s t m r others as_ → RowsOf s t m r some bs
rows-more s t m r e some others a as_ bs i rising j h l =
    let P : List Entry → Type 0 = λ v. RowsOf s t m r v bs in
    let Q : List ReadingRow → Type 0 = λ v. RowsOf s t m r (e ∷ others) v in
    let R : List Entry → Type 0 = IsInOrder entry_order in
    let up : IsInOrder entry_order (e ∷ others) = subst R i rising in
    let first : (b : ReadingRow) → Member b as_ → reading_order a b ≡ Less = λ b q. (
    let S : Entry → Type 0 = λ v. entry_order v (entry_of m r b) ≡ Less in
    entry-first m r a b (subst S h.reading (before-member entry_order e (entry_of m r b) others up.0 ((l.members b).0 q).0))) in
    let c : IsTrue a.counted ↔ Counts s (entry_of m r a) = counted-so s t m r e a h in
    let d : a.withdrawn ≡ is_withdrawn t (entry_of m r a) = withdrawn-so s t m r e a h in
    subst P (sym i) (subst Q (sym j) (record {
      rising = (before-all reading_order a as_ first, l.rising);
      members = λ b. (
        λ q. elim q [
          | inl k ↦ (let T : ReadingRow → Type 0 = λ v. Member (entry_of m r v) (e ∷ others) × (IsTrue v.counted ↔ Counts s (entry_of m r v)) × (v.withdrawn ≡ is_withdrawn t (entry_of m r v)) in subst T (sym k) (inl (sym h.reading), c, d))
          | inr k ↦ (let w = (l.members b).0 k in (inr w.0, w.1, w.2))
        ],
        λ q. elim q.0 [
          | inl k ↦ inl (rows-one s t m r b a (k ∙ h.reading) q.1 c q.2 d)
          | inr k ↦ inr ((l.members b).1 (k, q.1, q.2))
        ],
      );
    }))

pub rows-skip : (s t : List Entry) (m : ℕ) (r : Register) (e : Entry) (some others : List Entry) (as_ : List ReadingRow) → some ≡ e ∷ others → ((y w : ℕ) → e ≡ reading_entry m r y w → ⊥) →
    RowsOf s t m r others as_ → RowsOf s t m r some as_
rows-skip s t m r e some others as_ i n l =
    let P : List Entry → Type 0 = λ v. RowsOf s t m r v as_ in
    subst P (sym i) (record {
      rising = l.rising;
      members = λ b. (
        λ q. (let w = (l.members b).0 q in (inr w.0, w.1, w.2)),
        λ q. elim q.0 [ inl k ↦ absurd (n b.instant b.wh (sym k)) | inr k ↦ (l.members b).1 (k, q.1, q.2) ],
      );
    })

rows-whole : (s : List Entry) (m : ℕ) (r : Register) (sorted : List Entry) (as_ : List ReadingRow) → AreSorted s sorted → RowsOf s s m r sorted as_ → AreReadings s m r as_
rows-whole s m r sorted as_ a l = record {
  rising = l.rising;
  members = λ b. (
    λ q. (let w = (l.members b).0 q in record { held = (a.members (entry_of m r b)).0 w.0; counted = w.1; withdrawn = w.2 }),
    λ h. (l.members b).1 ((a.members (entry_of m r b)).1 h.held, h.counted, h.withdrawn),
  );
}

pub rows-all : (s : List Entry) (m : ℕ) (r : Register) (sorted items : List Entry) (as_ : List ReadingRow) → sorted ≡ items → AreSorted s items → RowsOf s s m r sorted as_ → AreReadings s m r as_
rows-all s m r sorted items as_ i a l =
    let P : List Entry → Type 0 = λ v. RowsOf s s m r v as_ in
    rows-whole s m r items as_ a (subst P i l)

-- ---- the list of records in order, as far as it has come
pub rows-push : (s l t : List Entry) (m : ℕ) (r : Register) (i : ℕ) (e : Entry) (a : ReadingRow) (as_ bs : List ReadingRow) (b v : Bool) → IsInOrder entry_order t → IsAt t i e →
    (e ≡ entry_of m r a) × (a.counted ≡ b) × (a.withdrawn ≡ v) → (IsTrue b ↔ Counts s e) → v ≡ is_withdrawn l e → bs ≡ as_ ++ a ∷ [] → IsSoFar (RowsOf s l m r) t i as_ → IsSoFar (RowsOf s l m r) t (i + 1) bs
rows-push s l t m r i e a as_ bs b v rising at told c d q h =
    let row : IsRowOf s l m r e a = record { reading = told.0; counted = (λ y. c.0 (sym told.1 ∙ y), λ k. told.1 ∙ c.1 k); withdrawn = told.2 ∙ d } in
    so-far-more (RowsOf s l m r) t i as_ bs a h q (λ more x.
    rows-more s l m r e (drop i t) (drop (i + 1) t) a more (a ∷ more) (drop-at t i e at) (rising-drop entry_order t i rising) refl row x)

pub rows-pass : (s l t : List Entry) (m : ℕ) (r : Register) (i : ℕ) (e : Entry) (as_ : List ReadingRow) → IsAt t i e → ((y w : ℕ) → e ≡ reading_entry m r y w → ⊥) →
    IsSoFar (RowsOf s l m r) t i as_ → IsSoFar (RowsOf s l m r) t (i + 1) as_
rows-pass s l t m r i e as_ at n h = so-far-skip (RowsOf s l m r) t i as_ h (λ more x. rows-skip s l m r e (drop i t) (drop (i + 1) t) more (drop-at t i e at) n x)

pub rows-end : (s l t : List Entry) (m : ℕ) (r : Register) (i : ℕ) (as_ : List ReadingRow) → length t ≤ i → IsSoFar (RowsOf s l m r) t i as_ → RowsOf s l m r t as_
rows-end s l t m r i as_ le h = so-far-all (RowsOf s l m r) t i as_ h le (record { rising = tt; members = λ a. (λ q. absurd q, λ q. absurd q.0) })

-- where what counts is told among those that stand, and what is withdrawn in a list of the same set
pub rows-of_standing : (s t l sorted : List Entry) (m : ℕ) (r : Register) (as_ : List ReadingRow) → AreSorted s sorted → ((e : Entry) → Counts t e ↔ Counts s e) → ((e : Entry) → is_withdrawn l e ≡ is_withdrawn s e) →
    RowsOf t l m r sorted as_ → AreReadings s m r as_
rows-of_standing s t l sorted m r as_ a c d h = rows-whole s m r sorted as_ a (record {
  rising = h.rising;
  members = λ b. (
    λ q. (let w = (h.members b).0 q in (w.0, (λ x. (c (entry_of m r b)).0 (w.1.0 x), λ x. w.1.1 ((c (entry_of m r b)).1 x)), w.2 ∙ d (entry_of m r b))),
    λ q. (h.members b).1 (q.0, (λ x. (c (entry_of m r b)).1 (q.1.0 x), λ x. q.1.1 ((c (entry_of m r b)).0 x)), q.2 ∙ sym (d (entry_of m r b))),
  );
})
