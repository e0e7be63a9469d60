-- The falls that the plain program finds.
use Rattle.std.proofs.Common.{◌≡◌, ◌↔◌, ℕ, ◌+◌, ◌<◌, ◌≤◌, Bool, IsTrue, false, Option, Some, None, List, [], ◌∷◌, ◌++◌, length, drop, refl, ap, sym, subst, ◌∙◌, ⊎_elim, arith}
use Rattle.std.proofs.lemmas.Bool.{cases_lt, true≢false}
use Rattle.std.specs.Ordering.{nat_cmp, ordering_then}
use Rattle.std.specs.declared.cmp.Ordering.{Ordering}
use Rattle.std.specs.declared.cmp.Ordering.TheVariants.{Less, Equal, Greater}
use Rattle.pw_obis.specs.declared.reference.Register.{Register}
use Rattle.pw_tariff.specs.declared.ids.MeterId.{MeterId}
use Rattle.pw_tariff.specs.Office.{register_place}
use Rattle.pw_flow.specs.Flow.{AreNeighbours}
use Rattle.pw_model.specs.declared.records.Key.{Key}
use Rattle.pw_model.specs.declared.records.Key.TheVariants as key
use Rattle.pw_model.specs.declared.records.Content.TheVariants as content
use Rattle.pw_model.specs.declared.records.Entry.{Entry}
use Rattle.pw_model.specs.declared.records.Fall.{Fall}
use Rattle.pw_model.specs.Same.{entry_order, key_numbers, content_numbers}
use Rattle.pw_model.specs.Counting.{Member, Counts, contents_at, wh_of, point, reading_key}
use Rattle.pw_model.specs.Lists.{IsInOrder, IsFall, fall_order, fall_numbers, reading_entry, AreFalls}
use Rattle.pw_model.specs.inner.Search.{IsEarliestAmong, IsAt, FallsFrom, high_reading, AreSorted}
use Rattle.pw_model.proofs.Counting.{standing-part, counts-one, one-is_counting}
use Rattle.pw_model.proofs.Found.{no-point, wh-back}
use Rattle.pw_model.proofs.InOrder.{before-member}
use Rattle.pw_model.proofs.EntryOrder.{told-more, told-skip}
use Rattle.pw_model.proofs.Places.{drop-at, at-there, rising-drop}
use Rattle.pw_model.proofs.SoFar.{IsSoFar, so-far-more, so-far-skip, so-far-all}

-- ---- one fall from a reading
-- the later neighbour of a point is one
later-le : (p : ℕ → Option ℕ) (x w y v z u : ℕ) → AreNeighbours p x w y v → AreNeighbours p x w z u → y ≤ z
later-le p x w y v z u a b =
    ⊎_elim
    (λ (l : z < y). absurd (let n : p z ≡ None = a.between z b.earlier l in let s : p z ≡ Some u = b.second in let c : None ≡ Some u = sym n ∙ s in cc))
    (λ (l : y ≤ z). l)
    (cases_lt z y)

later-one : (p : ℕ → Option ℕ) (x w y v z u : ℕ) → AreNeighbours p x w y v → AreNeighbours p x w z u → (y ≡ z) × (v ≡ u)
later-one p x w y v z u a b =
    let l = later-le p x w y v z u a b in
    let m = later-le p x w z u y v b a in
    let e : y ≡ z = omega (arith, l, m) in
    let P : ℕ → Type 0 = λ n. p n ≡ Some v in
    let s : p z ≡ Some v = subst P e a.second in
    let t : p z ≡ Some u = b.second in
    let q : Some v ≡ Some u = sym s ∙ t in
    (e, cc)

abbrev pub fall : MeterId → Register → ℕ → ℕ → ℕ → ℕ → Fall
fall m r x w y v = record { meter = m; register = r; from = x; high = w; to = y; low = v }

abbrev meter_in : Key → MeterId
meter_in (key.Reading m r t) = m
meter_in _ = record { 0 = 0 }

-- falls from one reading are one
pub falls-one : (s : List Entry) (f g : Fall) → IsFall (contents_at s) f → IsFall (contents_at s) g → high_reading f ≡ high_reading g → f ≡ g
falls-one s f g a b h =
    let k : key.Reading f.meter f.register f.from ≡ key.Reading g.meter g.register g.from = ap (λ (e : Entry). e.key) h in
    let c : content.Reading f.high ≡ content.Reading g.high = ap (λ (e : Entry). e.content) h in
    let m : f.meter ≡ g.meter = ap meter_in k in
    let r : f.register ≡ g.register = cc in
    let x : f.from ≡ g.from = cc in
    let w : f.high ≡ g.high = cc in
    let P : Fall → Type 0 = λ v. AreNeighbours (point (contents_at s) v.meter.0 v.register) v.from v.high f.to f.low in
    let q : fall f.meter f.register f.from f.high f.to f.low ≡ fall g.meter g.register g.from g.high f.to f.low = λ i. fall (m i) (r i) (x i) (w i) f.to f.low in
    let n : AreNeighbours (point (contents_at s) g.meter.0 g.register) g.from g.high f.to f.low = subst P q a.neighbours in
    let l = later-one (point (contents_at s) g.meter.0 g.register) g.from g.high f.to f.low g.to g.low n b.neighbours in
    q ∙ (λ i. fall g.meter g.register g.from g.high (l.0 i) (l.1 i))

-- the earlier reading of a fall counts
pub high-counts : (s : List Entry) (f : Fall) → IsFall (contents_at s) f → Counts s (high_reading f)
high-counts s f a = (one-is_counting s (high_reading f) tt).0 (wh-back (contents_at s (reading_key f.meter.0 f.register f.from)) f.high a.neighbours.first)

pub fall-not_counting : (s : List Entry) (e : Entry) (b : Bool) → (IsTrue b ↔ Counts s e) → b ≡ false → (f : Fall) → IsFall (contents_at s) f → e ≡ high_reading f → ⊥
fall-not_counting s e b h n f a i =
    let P : Entry → Type 0 = λ x. Counts s x in
    true≢false (sym (h.1 (subst P (sym i) (high-counts s f a))) ∙ n)

-- the earliest counting reading behind second x, whatever second from end on the search goes up to
abbrev pub IsNext : ℕ → List Entry → MeterId → Register → ℕ → Option (ℕ × ℕ) → Type 0
IsNext end s m r x found = (y : ℕ) → end ≤ y → IsEarliestAmong (contents_at s) m.0 r (x + 1) y s found

-- what a reading's key and content say of the fall from it
pub record IsFrom (e : Entry) (m : MeterId) (r : Register) (x w : ℕ) : Type 0 where
  pub key : e.key ≡ key.Reading m r x
  pub content : e.content ≡ content.Reading w

same-reading : (e : Entry) (m : MeterId) (r : Register) (x w : ℕ) → IsFrom e m r x w → e ≡ reading_entry m.0 r x w
same-reading e m r x w h = λ i. record { key = h.key i; content = h.content i }

pub none-behind : (end : ℕ) (s : List Entry) (e : Entry) (m : MeterId) (r : Register) (x w : ℕ) → IsFrom e m r x w → IsNext end s m r x None → (f : Fall) → IsFall (contents_at s) f → e ≡ high_reading f → ⊥
none-behind end s e m r x w h n f a i =
    let k : key.Reading m r x ≡ key.Reading f.meter f.register f.from = sym h.key ∙ ap (λ (v : Entry). v.key) i in
    let mm : m ≡ f.meter = ap meter_in k in
    let rr : r ≡ f.register = cc in
    let xx : x ≡ f.from = cc in
    let late : f.from < f.to = a.neighbours.earlier in
    let none : point (contents_at s) m.0 r f.to ≡ None = no-point s m.0 r (x + 1) (end + f.to + 1) f.to (n (end + f.to + 1) (omega arith)) (omega arith) (omega arith) in
    let same : point (contents_at s) m.0 r f.to ≡ point (contents_at s) f.meter.0 f.register f.to = λ j. point (contents_at s) (mm j).0 (rr j) f.to in
    let some : None ≡ Some f.low = sym none ∙ same ∙ a.neighbours.second in
    cc

-- the next counting reading behind one that counts is its neighbour
found-neighbours : (end : ℕ) (s : List Entry) (e : Entry) (m : MeterId) (r : Register) (x w y v : ℕ) → IsFrom e m r x w → Counts s e → IsNext end s m r x (Some (y, v)) → AreNeighbours (point (contents_at s) m.0 r) x w y v
found-neighbours end s e m r x w y v h c n =
    let P : Entry → Type 0 = λ z. Counts s z in
    let here : Counts s (reading_entry m.0 r x w) = subst P (same-reading e m r x w h) c in
    let told = n end (omega arith) in
    record {
      earlier = (let l = told.1 in omega (arith, l));
      first = ap wh_of (counts-one s (reading_entry m.0 r x w) here);
      second = told.0;
      between = λ t l k. no-point s m.0 r (x + 1) y t told.3 (omega arith) k;
    }

pub fall-found : (end : ℕ) (s : List Entry) (e : Entry) (m : MeterId) (r : Register) (x w y v : ℕ) → IsFrom e m r x w → Counts s e → IsNext end s m r x (Some (y, v)) → v < w →
    IsFall (contents_at s) (fall m r x w y v) × (e ≡ high_reading (fall m r x w y v))
fall-found end s e m r x w y v h c n l =
    (record { neighbours = found-neighbours end s e m r x w y v h c n; lower = l }, same-reading e m r x w h)

pub no-fall : (end : ℕ) (s : List Entry) (e : Entry) (m : MeterId) (r : Register) (x w y v : ℕ) → IsFrom e m r x w → Counts s e → IsNext end s m r x (Some (y, v)) → w ≤ v → (f : Fall) → IsFall (contents_at s) f → e ≡ high_reading f → ⊥
no-fall end s e m r x w y v h c n l f a i =
    let k : key.Reading m r x ≡ key.Reading f.meter f.register f.from = sym h.key ∙ ap (λ (z : Entry). z.key) i in
    let o : content.Reading w ≡ content.Reading f.high = sym h.content ∙ ap (λ (z : Entry). z.content) i in
    let mm : f.meter ≡ m = ap meter_in (sym k) in
    let rr : f.register ≡ r = cc in
    let xx : f.from ≡ x = cc in
    let ww : f.high ≡ w = cc in
    let P : Fall → Type 0 = λ z. AreNeighbours (point (contents_at s) z.meter.0 z.register) z.from z.high f.to f.low in
    let q : fall f.meter f.register f.from f.high f.to f.low ≡ fall m r x w f.to f.low = λ j. fall (mm j) (rr j) (xx j) (ww j) f.to f.low in
    let b : AreNeighbours (point (contents_at s) m.0 r) x w f.to f.low = subst P q a.neighbours in
    let one = later-one (point (contents_at s) m.0 r) x w f.to f.low y v b (found-neighbours end s e m r x w y v h c n) in
    let low : f.low ≡ v = one.1 in
    let fell : f.low < f.high = a.lower in
    absurd (omega arith)

-- ---- the list
less-then : (a b c d r : Ordering) → ordering_then (ordering_then a (ordering_then b (ordering_then c Equal))) (ordering_then d Equal) ≡ Less →
    ordering_then a (ordering_then b (ordering_then c (ordering_then d r))) ≡ Less
less-then Less b c d r h = refl
less-then Greater b c d r h = cc
less-then Equal Less c d r h = refl
less-then Equal Greater c d r h = cc
less-then Equal Equal Less d r h = refl
less-then Equal Equal Greater d r h = cc
less-then Equal Equal Equal Less r h = refl
less-then Equal Equal Equal Equal r h = cc
less-then Equal Equal Equal Greater r h = cc

high-first : (f g : Fall) → entry_order (high_reading f) (high_reading g) ≡ Less → fall_order f g ≡ Less
unfolding key_numbers content_numbers fall_numbers
high-first f g h =
    less-then (nat_cmp f.meter.0 g.meter.0) (nat_cmp (register_place f.register) (register_place g.register)) (nat_cmp f.from g.from) (nat_cmp f.high g.high) (ordering_then (nat_cmp f.to g.to) (ordering_then (nat_cmp f.low g.low) Equal)) h

pub falls-more : (s : List Entry) (e : Entry) (some others : List Entry) (f : Fall) (fs gs : List Fall) → some ≡ e ∷ others → IsInOrder entry_order some → gs ≡ f ∷ fs →
    IsFall (contents_at s) f × (e ≡ high_reading f) → FallsFrom s others fs → FallsFrom s some gs
falls-more s e some others f fs gs i rising j a l =
    let R : List Entry → Type 0 = IsInOrder entry_order in
    let up : IsInOrder entry_order (e ∷ others) = subst R i rising in
    let first : (g : Fall) → Member g fs → fall_order f g ≡ Less = λ g m. (
    let S : Entry → Type 0 = λ v. entry_order v (high_reading g) ≡ Less in
    high-first f g (subst S a.1 (before-member entry_order e (high_reading g) others up.0 ((l.members g).0 m).1))) in
    told-more fall_order (IsFall (contents_at s)) high_reading e some others f fs gs i j a.0 a.1 first (λ g b q. falls-one s g f b a.0 q) l

pub falls-skip : (s : List Entry) (e : Entry) (some others : List Entry) (fs : List Fall) → some ≡ e ∷ others →
    ((f : Fall) → IsFall (contents_at s) f → e ≡ high_reading f → ⊥) → FallsFrom s others fs → FallsFrom s some fs
falls-skip s e some others fs i n l = told-skip fall_order (IsFall (contents_at s)) high_reading e some others fs i (λ f a k. absurd (n f a (sym k))) l

falls-whole : (s sorted : List Entry) (fs : List Fall) → AreSorted s sorted → FallsFrom s sorted fs → AreFalls s fs
falls-whole s sorted fs a l = record {
  rising = l.rising;
  members = λ f. (
    λ m. ((l.members f).0 m).0,
    λ h. (l.members f).1 (h, (a.members (high_reading f)).1 (standing-part s (high_reading f) (high-counts s f h).0)),
  );
}

pub falls-all : (s sorted items : List Entry) (fs : List Fall) → sorted ≡ items → AreSorted s items → FallsFrom s sorted fs → AreFalls s fs
falls-all s sorted items fs i a l =
    let P : List Entry → Type 0 = λ v. FallsFrom s v fs in
    falls-whole s items fs a (subst P i l)

-- ---- the list of records in order, as far as it has come
pub falls-push : (s : List Entry) (i : ℕ) (f : Fall) (fs gs : List Fall) → IsInOrder entry_order s → IsFall (contents_at s) f × IsAt s i (high_reading f) → gs ≡ fs ++ f ∷ [] →
    IsSoFar (FallsFrom s) s i fs → IsSoFar (FallsFrom s) s (i + 1) gs
falls-push s i f fs gs rising a e h =
    so-far-more (FallsFrom s) s i fs gs f h e (λ more m.
    falls-more s (high_reading f) (drop i s) (drop (i + 1) s) f more (f ∷ more) (drop-at s i (high_reading f) a.1) (rising-drop entry_order s i rising) refl (a.0, refl) m)

-- a fall from the record that stands at a place
pub fall-at : (s : List Entry) (i : ℕ) (e : Entry) (f : Fall) → IsAt s i e → IsFall (contents_at s) f × (e ≡ high_reading f) → IsFall (contents_at s) f × IsAt s i (high_reading f)
fall-at s i e f at a = let P : Entry → Type 0 = λ v. IsAt s i v in (a.0, subst P a.1 at)

pub falls-pass : (s : List Entry) (i : ℕ) (fs : List Fall) → i < length s → ((f : Fall) → IsFall (contents_at s) f → IsAt s i (high_reading f) → ⊥) →
    IsSoFar (FallsFrom s) s i fs → IsSoFar (FallsFrom s) s (i + 1) fs
falls-pass s i fs l n h =
    let at = at-there s i l in
    let P : Entry → Type 0 = λ v. IsAt s i v in
    so-far-skip (FallsFrom s) s i fs h (λ more m.
    falls-skip s at.0 (drop i s) (drop (i + 1) s) more (drop-at s i at.0 at.1) (λ f a q. n f a (subst P q at.1)) m)

pub falls-end : (s : List Entry) (i : ℕ) (fs : List Fall) → IsInOrder entry_order s → length s ≤ i → IsSoFar (FallsFrom s) s i fs → AreFalls s fs
falls-end s i fs rising l h =
    falls-whole s s fs (record { rising = rising; members = λ x. (λ m. m, λ m. m) })
    (so-far-all (FallsFrom s) s i fs h l (record { rising = tt; members = λ f. (λ m. absurd m, λ m. m.1) }))
