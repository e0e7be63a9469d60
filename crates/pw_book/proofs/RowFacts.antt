-- The rows of a register's readings, one after another.
use Rattle.std.proofs.Common.{◌≡◌, ℕ, ◌+◌, ◌<◌, ◌≤◌, Option, Some, None, List, [], ◌∷◌, ◌++◌, length, take, get_or, refl, ap, sym, ◌∙◌, subst, inl, inr, Ordering, Less, Equal, Greater, Bool, true, false, not, ◌&&◌, IsTrue, ◌↔◌, arith}
use Rattle.std.specs.Cmp.{nat_cmp_is}
use Rattle.std.specs.Ordering.{nat_cmp, ordering_then}
use Rattle.std.specs.List.Sorted.{IsNonDecreasingBy}
use Rattle.std.proofs.lemmas.Bool.{cases_lt, true≢false}
use Rattle.std.proofs.lemmas.Option.{none-some, same_Some}
use Rattle.pw_obis.specs.declared.reference.Register.{Register}
use Rattle.pw_tariff.specs.declared.ids.MeterId.{MeterId}
use Rattle.pw_tariff.specs.Office.{register_place}
use Rattle.pw_model.specs.declared.records.Entry.{Entry}
use Rattle.pw_model.specs.declared.records.ReadingRow.{ReadingRow}
use Rattle.pw_model.specs.Counting.{Member, is_withdrawn, Counts, contents_at, point, reading_key, wh_of}
use Rattle.pw_model.specs.Lists.{IsInOrder, Lists, AreReadings, reading_entry, reading_order, reading_numbers}
use Rattle.pw_model.specs.Same.{entry_order, key_numbers, content_numbers}
use Rattle.pw_model.specs.Kinds.{IsReadingOf}
use Rattle.pw_model.proofs.Counting.{one-is_counting, standing-told}
use Rattle.pw_model.proofs.Places.{at-member, at-one, at-some, at-told, member-at, member-left, member-right, member-split, rising-at, take-at, take-all, taken-at}
use Rattle.pw_shelf.specs.Rows.{ListsReadings}
use Rattle.pw_parts.specs.Shown.{shown}
use Rattle.pw_parts.proofs.Groups.{rising-push}
use Rattle.pw_parts.proofs.Seconds.{shown-of, wh-one}
use Rattle.pw_parts.proofs.Chart.{less-is}
use Rattle.pw_model.specs.inner.Search.{IsAt}
use Rattle.pw_model.specs.Seconds.{ListsSeconds, by_second}
use Rattle.pw_book.specs.inner.Counted.{IsRowOf, StandBefore}

then-equal : (o : Ordering) → ordering_then o Equal ≡ o
then-equal Less = refl
then-equal Equal = refl
then-equal Greater = refl

same-number : (x : ℕ) → nat_cmp x x ≡ Equal
same-number x = sym (nat_cmp_is x x Equal refl)

-- the reading of a row
abbrev read : MeterId → Register → ReadingRow → Entry
read m r q = reading_entry m.0 r q.instant q.wh

-- readings of a register stand in the order of their rows
rows-ordered : (m : MeterId) (r : Register) (p q : ReadingRow) → entry_order (read m r p) (read m r q) ≡ Less → reading_order p q ≡ Less
unfolding key_numbers content_numbers reading_numbers
rows-ordered m r p q h =
    let g = rw (same-number m.0, same-number (register_place r)) at h in
    (let f = rw (then-equal (nat_cmp p.instant q.instant)) at g in f)

-- ---- the rows so far
-- the row of a reading so far, marked where this is what is told at its second
pub record IsRowAmong (told : ℕ → Option ℕ) (s done : List Entry) (m : MeterId) (r : Register) (q : ReadingRow) : Type 0 where
  pub held : Member (read m r q) done
  pub counted : IsTrue q.counted ↔ (told q.instant ≡ Some q.wh)
  pub withdrawn : q.withdrawn ≡ (not q.counted && is_withdrawn s (read m r q))

abbrev pub RowsSoFar : (ℕ → Option ℕ) → List Entry → List Entry → ℕ → MeterId → Register → List ReadingRow → Type 0
RowsSoFar told s readings i m r = Lists reading_order (IsRowAmong told s (take i readings) m r)

pub no-rows : (told : ℕ → Option ℕ) (s : List Entry) (m : MeterId) (r : Register) → Lists reading_order (IsRowAmong told s [] m r) []
no-rows told s m r = record { rising = tt; members = λ q. (λ n. absurd n, λ h. absurd h.held) }

same-truth : (b c : Bool) → (IsTrue b → IsTrue c) → (IsTrue c → IsTrue b) → b ≡ c
same-truth true true f g = refl
same-truth true false f g = absurd (true≢false (sym (f refl)))
same-truth false true f g = absurd (true≢false (sym (g refl)))
same-truth false false f g = refl

module _ (told : ℕ → Option ℕ) (s done : List Entry) (rows : List ReadingRow) (e : Entry) (m : MeterId) (r : Register) (l : Lists reading_order (IsRowAmong told s done m r) rows) where
  row-more : (q : ReadingRow) → IsRowAmong told s done m r q → IsRowAmong told s (done ++ e ∷ []) m r q
  row-more q h = record { held = member-left (read m r q) done (e ∷ []) h.held; counted = h.counted; withdrawn = h.withdrawn }

  -- a record more that shows something
  lists-row : (q : ReadingRow) → IsReadingOf m r e.key → IsRowOf told s e q → ((x : Entry) → Member x done → entry_order x e ≡ Less) →
      Lists reading_order (IsRowAmong told s (done ++ e ∷ []) m r) (rows ++ q ∷ [])
  lists-row q k h low =
      let shows = shown-of m r e.key e.content (q.instant, q.wh) k h.shows in
      let same : e ≡ read m r q = λ i. record { key = shows.0 i; content = shows.1 i } in
      let M : Entry → Type 0 = λ x. Member x (done ++ e ∷ []) in
      let W : Entry → Type 0 = λ x. q.withdrawn ≡ (not q.counted && is_withdrawn s x) in
      let here : IsRowAmong told s (done ++ e ∷ []) m r q = record { held = subst M same (member-right e done (e ∷ []) (inl refl)); counted = h.counted; withdrawn = subst W same h.withdrawn } in
      record {
        rising = rising-push reading_order rows q l.rising (λ x n.
            let O : Entry → Type 0 = λ y. entry_order (read m r x) y ≡ Less in
            rows-ordered m r x q (subst O same (low (read m r x) ((l.members x).0 n).held)));
        members = λ y. (
          λ n. elim (member-split y rows (q ∷ []) n) [
            | inl i ↦ row-more y ((l.members y).0 i)
            | inr (inl i) ↦ (let P : ReadingRow → Type 0 = λ z. IsRowAmong told s (done ++ e ∷ []) m r z in subst P (sym i) here)
            | inr (inr z) ↦ absurd z
          ],
          λ p. elim (member-split (read m r y) done (e ∷ []) p.held) [
            | inl i ↦ member-left y rows (q ∷ []) ((l.members y).1 (record { held = i; counted = p.counted; withdrawn = p.withdrawn }))
            | inr (inl i) ↦ (
                let pair : (y.instant, y.wh) ≡ (q.instant, q.wh) = same_Some (y.instant, y.wh) (q.instant, q.wh) (ap shown i ∙ h.shows) in
                let Q : ℕ × ℕ → Type 0 = λ a. IsTrue y.counted ↔ (told a.0 ≡ Some a.1) in
                let c : IsTrue y.counted ↔ (told q.instant ≡ Some q.wh) = subst Q pair p.counted in
                let truth : y.counted ≡ q.counted = same-truth y.counted q.counted (λ t. h.counted.1 (c.0 t)) (λ t. c.1 (h.counted.0 t)) in
                let gone : y.withdrawn ≡ q.withdrawn = p.withdrawn ∙ (λ j. not (truth j) && is_withdrawn s (i j)) ∙ sym h.withdrawn in
                let is : y ≡ q = λ j. record { instant = (pair j).0; wh = (pair j).1; counted = truth j; withdrawn = gone j } in
                member-right y rows (q ∷ []) (inl is))
            | inr (inr z) ↦ absurd z
          ],
        );
      }

  -- a record more that shows nothing
  lists-none : shown e ≡ None → Lists reading_order (IsRowAmong told s (done ++ e ∷ []) m r) rows
  lists-none h = record {
    rising = l.rising;
    members = λ y. (
      λ n. row-more y ((l.members y).0 n),
      λ q. elim (member-split (read m r y) done (e ∷ []) q.held) [
        | inl i ↦ (l.members y).1 (record { held = i; counted = q.counted; withdrawn = q.withdrawn })
        | inr (inl i) ↦ absurd (none-some (y.instant, y.wh) (sym h ∙ ap shown (sym i)))
        | inr (inr z) ↦ absurd z
      ],
    );
  }

-- ---- one step on
module _ (told : ℕ → Option ℕ) (s readings : List Entry) (i : ℕ) (e : Entry) (m : MeterId) (r : Register) (rows new : List ReadingRow) (l : i < length readings) (g : e ≡ get_or readings i e) (f : RowsSoFar told s readings i m r rows) where
  here : IsAt readings i e
  here = at-told readings i e l g

  more : take (i + 1) readings ≡ take i readings ++ e ∷ []
  more = take-at readings i e here

  pub next-row : (q : ReadingRow) → IsInOrder entry_order readings → ((x : Entry) → Member x readings → IsReadingOf m r x.key) → IsRowOf told s e q → new ≡ rows ++ q ∷ [] → RowsSoFar told s readings (i + 1) m r new
  next-row q rise k h n =
      let P : List Entry → Type 0 = λ xs. Lists reading_order (IsRowAmong told s xs m r) new in
      let R : List ReadingRow → Type 0 = λ xs. Lists reading_order (IsRowAmong told s (take i readings ++ e ∷ []) m r) xs in
      subst P (sym more) (subst R (sym n) (lists-row told s (take i readings) rows e m r f q (k e (at-member readings i e here)) h (λ x t. let j = taken-at readings i x t in rising-at entry_order readings j.0 i x e rise j.2 here j.1)))

  pub no-row : shown e ≡ None → new ≡ rows → RowsSoFar told s readings (i + 1) m r new
  no-row h n =
      let P : List Entry → Type 0 = λ xs. Lists reading_order (IsRowAmong told s xs m r) new in
      let R : List ReadingRow → Type 0 = λ xs. Lists reading_order (IsRowAmong told s (take i readings ++ e ∷ []) m r) xs in
      subst P (sym more) (subst R (sym n) (lists-none told s (take i readings) rows e m r f h))

-- ---- at the end
-- this is told at a reading's second where the reading counts
told-counts : (s : List Entry) (m : MeterId) (r : Register) (t w : ℕ) → (point (contents_at s) m.0 r t ≡ Some w) ↔ Counts s (reading_entry m.0 r t w)
told-counts s m r t w = (
  λ e. (one-is_counting s (reading_entry m.0 r t w) tt).0 (wh-one (contents_at s (reading_key m.0 r t)) w e),
  λ c. ap wh_of ((one-is_counting s (reading_entry m.0 r t w) tt).1 c),
)

-- what counts isn't withdrawn
mark-whole : (s : List Entry) (e : Entry) (b : Bool) → (IsTrue b → Counts s e) → (not b && is_withdrawn s e) ≡ is_withdrawn s e
mark-whole s e true h = sym (standing-told s e (h refl).0).1
mark-whole s e false h = refl

pub all-rows : (s readings : List Entry) (i : ℕ) (m : MeterId) (r : Register) (rows : List ReadingRow) → length readings ≤ i → RowsSoFar (point (contents_at s) m.0 r) s readings i m r rows → ListsReadings s m r readings → AreReadings s m.0 r rows
all-rows s readings i m r rows d h l =
    let all : take i readings ≡ readings = take-all readings i d in
    let told = point (contents_at s) m.0 r in
    let P : List Entry → Type 0 = λ xs. Lists reading_order (IsRowAmong told s xs m r) rows in
    let g : Lists reading_order (IsRowAmong told s readings m r) rows = subst P all h in
    record {
      rising = g.rising;
      members = λ q.
          let t = told-counts s m r q.instant q.wh in (
            λ n. (let k = (g.members q).0 n in record {
              held = ((l.members (read m r q)).0 k.held).0;
              counted = (λ b. t.0 (k.counted.0 b), λ c. k.counted.1 (t.1 c));
              withdrawn = k.withdrawn ∙ mark-whole s (read m r q) q.counted (λ b. t.0 (k.counted.0 b));
            }),
            λ k. (g.members q).1 (record {
              held = (l.members (read m r q)).1 (k.held, (refl, refl));
              counted = (λ b. t.1 (k.counted.0 b), λ c. k.counted.1 (t.0 c));
              withdrawn = k.withdrawn ∙ sym (mark-whole s (read m r q) q.counted k.counted.0);
            }),
          );
    }

-- ---- where a point stands
pub never-falls : (points : List (ℕ × ℕ)) → IsInOrder by_second points → IsNonDecreasingBy (λ (a : ℕ × ℕ). a.0) points
never-falls points r i j d k n = elim (cases_lt i j) [
  | inl b ↦ (let q = less-is (get_or points i d).0 (get_or points j d).0 (rising-at by_second points i j (get_or points i d) (get_or points j d) r (at-some points i d (omega (arith, b, n))) (at-some points j d n) b) in omega (arith, q))
  | inr b ↦ (let e : i ≡ j = omega (arith, b, k) in let v : (get_or points i d).0 ≡ (get_or points j d).0 = ap (λ x. (get_or points x d).0) e in omega (arith, v))
]

module _ (told : ℕ → Option ℕ) (points : List (ℕ × ℕ)) (l : ListsSeconds told points) (t w count : ℕ) (b : StandBefore points t count) where
  -- a point at the second stands at that place
  stands-there : told t ≡ Some w → IsAt points count (t, w)
  stands-there e =
      let at = member-at points (t, w) ((l.members (t, w)).1 e) in
      let i = at.0 in
      let here : IsAt points i (t, w) = at.1 in
      elim (cases_lt i count) [
        | inl f ↦ absurd (let q = b.early i (t, w) f in let v = got points i (t, w) here in omega (arith, q, v))
        | inr f ↦ elim (cases_lt count i) [
          | inl g ↦ (
              let n = within points i (t, w) here in
              let x : ℕ × ℕ = get_or points count (t, w) in
              let q = less-is x.0 t (rising-at by_second points count i x (t, w) l.rising (at-some points count (t, w) (omega (arith, g, n))) here g) in
              let v = b.late count (t, w) (omega arith) (omega (arith, g, n)) in
              absurd (omega (arith, q, v)))
          | inr g ↦ (let e : i ≡ count = omega (arith, f, g) in subst (λ (n : ℕ). IsAt points n (t, w)) e here)
        ]
      ]
    where
      within : (xs : List (ℕ × ℕ)) (i : ℕ) (x : ℕ × ℕ) → IsAt xs i x → i < length xs
      within xs i x h = h.0

      got : (xs : List (ℕ × ℕ)) (i : ℕ) (x : ℕ × ℕ) → IsAt xs i x → (get_or xs i x).0 ≡ x.0
      got xs i x h = ap (λ (a : ℕ × ℕ). a.0) h.1

  pub none-there : length points ≤ count → told t ≡ Some w → ⊥
  none-there n e = let h = stands-there e in let k = h.0 in omega (arith, n, k)

  pub shows-there : (a : ℕ × ℕ) → IsAt points count a → (a.0 ≡ t) × (a.1 ≡ w) → told t ≡ Some w
  shows-there a h e = (let m = (l.members a).0 (at-member points count a h) in subst (λ (p : ℕ × ℕ). told p.0 ≡ Some p.1) (λ i. (e.0 i, e.1 i)) m)

  pub told-there : (a : ℕ × ℕ) → IsAt points count a → told t ≡ Some w → (a.0 ≡ t) × (a.1 ≡ w)
  told-there a h e = (let q = at-one points count a (t, w) h (stands-there e) in (ap (λ (p : ℕ × ℕ). p.0) q, ap (λ (p : ℕ × ℕ). p.1) q))
