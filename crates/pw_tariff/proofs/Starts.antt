-- The starts of owners, from the first to the last, and what has begun at a second.
use Rattle.std.proofs.Common.{◌≡◌, ℕ, zero, suc, ◌+◌, ◌<◌, ◌≤◌, Option, Some, None, IsSome, List, [], ◌∷◌, ◌-◌, length, map, get_or, min, refl, ◌∙◌, ap, subst, arith, inl, inr}
use Rattle.std.proofs.lemmas.List.{get_or-map, length-map}
use Rattle.std.proofs.lemmas.Bool.{cases_lt, eq-eqb, ne_eqb}
use Rattle.pw_tariff.specs.declared.ids.AccountId.{AccountId}
use Rattle.pw_tariff.specs.Owners.{StartsIncrease, start_at, owner_from, owner_by_starts}
use Rattle.pw_flow.specs.Time.{last}
use Rattle.pw_flow.proofs.Points.{last-is, last-none, last-steady}
use Rattle.pw_tariff.specs.inner.Starts.{AreBegun, IsNextStart}

abbrev pub Start : Type 0
Start = ℕ × Option AccountId

rising-first : (a b : Start) (ss : List Start) → StartsIncrease (a ∷ b ∷ ss) → a.0 < b.0
rising-first a b ss h = h 0 (omega arith)

rising-rest : (a : Start) (ss : List Start) → StartsIncrease (a ∷ ss) → StartsIncrease ss
rising-rest a ss h k l =
    let e : suc k + 1 ≡ suc (k + 1) = omega arith in
    let P : ℕ → Type 0 = λ n. get_or (map (λ (s : Start). s.0) ss) k 0 < get_or (map (λ (s : Start). s.0) (a ∷ ss)) n 0 in
    subst P e (h (suc k) (omega arith))

other-second : (a : Start) (ss : List Start) (t : ℕ) → (a.0 ≡ t → ⊥) → start_at (a ∷ ss) t ≡ start_at ss t
unfolding start_at
other-second a ss t d = rw (ne_eqb a.0 t d)

own-second : (a : Start) (ss : List Start) → start_at (a ∷ ss) a.0 ≡ Some a.1
unfolding start_at
own-second a ss = rw (eq-eqb a.0 a.0 refl)

-- each start is later than all before it
first-below : (a : Start) (ss : List Start) (s : Start) (j : ℕ) → StartsIncrease (a ∷ ss) → j < length ss → a.0 < (get_or ss j s).0
first-below a [] s j h l = absurd (omega arith)
first-below a (b ∷ ss) s zero h l = rising-first a b ss h
first-below a (b ∷ ss) s (suc j) h l =
    let m : a.0 < b.0 = rising-first a b ss h in
    let n : b.0 < (get_or ss j s).0 = first-below b ss s j (rising-rest a (b ∷ ss) h) (omega arith) in
    omega arith

pub start-below : (ss : List Start) (s : Start) (i j : ℕ) → StartsIncrease ss → i < j → j < length ss → (get_or ss i s).0 < (get_or ss j s).0
start-below [] s i j h l m = absurd (omega arith)
start-below (a ∷ ss) s i zero h l m = absurd (omega arith)
start-below (a ∷ ss) s zero (suc j) h l m = first-below a ss s j h (omega arith)
start-below (a ∷ ss) s (suc i) (suc j) h l m = start-below ss s i j (rising-rest a ss h) (omega arith) (omega arith)

pub start-at_most : (ss : List Start) (s : Start) (i j : ℕ) → StartsIncrease ss → i ≤ j → j < length ss → (get_or ss i s).0 ≤ (get_or ss j s).0
start-at_most ss s i j h l m =
    elim (cases_lt i j) [
      | inl b ↦ (let k : (get_or ss i s).0 < (get_or ss j s).0 = start-below ss s i j h b m in omega arith)
      | inr b ↦ (let e : i ≡ j = omega arith in rw e (omega arith))
    ]

-- what begins at a start is that start's owner
start-stands : (ss : List Start) (s : Start) (i : ℕ) → StartsIncrease ss → i < length ss → start_at ss (get_or ss i s).0 ≡ Some (get_or ss i s).1
start-stands [] s i h l = absurd (omega arith)
start-stands (a ∷ ss) s zero h l = own-second a ss
start-stands (a ∷ ss) s (suc i) h l =
    let m : a.0 < (get_or ss i s).0 = first-below a ss s i h (omega arith) in
    other-second a ss (get_or ss i s).0 (λ e. absurd (omega arith)) ∙ start-stands ss s i (rising-rest a ss h) (omega arith)

-- nothing begins at a second that is no start
none-stands : (ss : List Start) (s : Start) (t : ℕ) → ((k : ℕ) → k < length ss → (get_or ss k s).0 ≡ t → ⊥) → start_at ss t ≡ None
none-stands [] s t h = unfold start_at in refl
none-stands (a ∷ ss) s t h = other-second a ss t (h 0 (omega arith)) ∙ none-stands ss s t (λ k l. h (suc k) (omega arith))

-- nothing begins between the last start that has begun and the first that hasn't
none-between : (ss : List Start) (s : Start) (u n : ℕ) →
    ((k : ℕ) → k < n → (get_or ss k s).0 < u) → ((k : ℕ) → n ≤ k → k < length ss → u < (get_or ss k s).0) → start_at ss u ≡ None
none-between ss s u n f g =
    none-stands ss s u (λ k l e. elim (cases_lt k n) [
      | inl h ↦ (let x : (get_or ss k s).0 < u = f k h in absurd (omega arith))
      | inr h ↦ (let x : u < (get_or ss k s).0 = g k h l in absurd (omega arith))
    ])

-- ---- the owner
pub begun-owner : (ss : List Start) (s : Start) (t n : ℕ) → StartsIncrease ss → AreBegun ss t n → 0 < n → (get_or ss (n - 1) s).1 ≡ owner_by_starts ss t
unfolding owner_by_starts
begun-owner ss s t n h b p =
    let bound : n ≤ length ss = b.bound in
    let own = start-stands ss s (n - 1) h (omega arith) in
    let e : last (start_at ss) t ≡ Some ((get_or ss (n - 1) s).0, (get_or ss (n - 1) s).1) =
    last-is (start_at ss) t (get_or ss (n - 1) s).0 (get_or ss (n - 1) s).1 (record {
      holds = own;
      early = b.early (n - 1) s (omega arith);
      none = λ u later early. none-between ss s u n
          (λ k l. let m : (get_or ss k s).0 ≤ (get_or ss (n - 1) s).0 = start-at_most ss s k (n - 1) h (omega arith) (omega arith) in omega arith)
          (λ k l m. let f : t < (get_or ss k s).0 = b.late k s l m in omega arith);
    }) in
    rw e

pub begun-nobody : (ss : List Start) (t n : ℕ) → AreBegun ss t n → n ≡ 0 → None ≡ owner_by_starts ss t
unfolding owner_by_starts
begun-nobody ss t n b z =
    let e : last (start_at ss) t ≡ None = last-none (start_at ss) t (λ u early. none-between ss (0, None) u n
    (λ k l. absurd (omega arith))
    (λ k l m. let f : t < (get_or ss k (0, None)).0 = b.late k (0, None) l m in omega arith)) in
    rw e

-- the owner stays where nothing begins
pub steady-owner : (ss : List Start) (t u : ℕ) → t ≤ u → ((s : ℕ) → t < s → s ≤ u → start_at ss s ≡ None) → owner_by_starts ss u ≡ owner_by_starts ss t
unfolding owner_by_starts
steady-owner ss t u l h = ap owner_from (last-steady (start_at ss) t u l h)

-- ---- the next start
is-some : {A : Type 0} (o : Option A) (a : A) → o ≡ Some a → IsSome o
is-some o a e = rw e refl

pub all-begun : (ss : List Start) (t end n : ℕ) → t < end → AreBegun ss t n → length ss ≤ n → IsNextStart ss t end end
all-begun ss t end n l b m = record {
  behind = l;
  within = omega arith;
  none = λ u later early. none-between ss (0, None) u n
      (λ k h. let f : (get_or ss k (0, None)).0 ≤ t = b.early k (0, None) h in omega arith)
      (λ k h i. absurd (omega arith));
  there = λ h. absurd (omega arith);
}

pub next-begins : (ss : List Start) (s : Start) (t end n next : ℕ) → StartsIncrease ss → t < end → AreBegun ss t n → n < length ss → next ≡ min (get_or ss n s).0 end → IsNextStart ss t end next
next-begins ss s t end n next r l b m e =
    let late : t < (get_or ss n s).0 = b.late n s (omega arith) m in
    record {
      behind = omega arith;
      within = omega arith;
      none = λ u later early. none-between ss s u n
          (λ k h. let f : (get_or ss k s).0 ≤ t = b.early k s h in omega arith)
          (λ k h i. let f : (get_or ss n s).0 ≤ (get_or ss k s).0 = start-at_most ss s n k r h i in omega arith);
      there = λ h.
          let x : next ≡ (get_or ss n s).0 = omega arith in
          rw x (is-some (start_at ss (get_or ss n s).0) _ (start-stands ss s n r m));
    }

-- ---- a list that rises, and one that doesn't
start-read : (ss : List Start) (i : ℕ) (d : Start) → i < length ss → get_or (map (λ (a : Start). a.0) ss) i 0 ≡ (get_or ss i d).0
start-read ss i d l = get_or-map (λ (a : Start). a.0) ss i d 0 l

-- a list with a start that isn't later than the one before it
pub not-rising : (ss : List Start) (i x y : ℕ) (s r : Start) → 1 ≤ i → i < length ss → x ≡ (get_or ss i s).0 → y ≡ (get_or ss (i - 1) r).0 → x ≤ y → StartsIncrease ss → ⊥
not-rising ss i x y s r o l e f g h =
    let n : i - 1 + 1 ≡ i = omega arith in
    let m : length (map (λ (a : Start). a.0) ss) ≡ length ss = length-map ss (λ (a : Start). a.0) in
    let k : get_or (map (λ (a : Start). a.0) ss) (i - 1) 0 < get_or (map (λ (a : Start). a.0) ss) (i - 1 + 1) 0 = h (i - 1) (omega arith) in
    let k2 : get_or (map (λ (a : Start). a.0) ss) (i - 1) 0 < get_or (map (λ (a : Start). a.0) ss) i 0 = rw n at k in
    let p = start-read ss i s l in
    let q = start-read ss (i - 1) r (omega arith) in
    omega (arith, p, q, k2)

-- the starts up to some place rise, and so do those up to the next
pub rising-more : (ss : List Start) (i x y : ℕ) (s r : Start) → 1 ≤ i → i < length ss → x ≡ (get_or ss i s).0 → y ≡ (get_or ss (i - 1) r).0 → y < x →
    ((k : ℕ) → k + 1 < i → get_or (map (λ (a : Start). a.0) ss) k 0 < get_or (map (λ (a : Start). a.0) ss) (k + 1) 0) →
    (k : ℕ) → k + 1 < i + 1 → get_or (map (λ (a : Start). a.0) ss) k 0 < get_or (map (λ (a : Start). a.0) ss) (k + 1) 0
rising-more ss i x y s r o l e f g h k m =
    elim (cases_lt (k + 1) i) [
      | inl b ↦ h k b
      | inr b ↦ (
          let n : k + 1 ≡ i = omega arith in
          let z : k ≡ i - 1 = omega arith in
          let p = start-read ss i s l in
          let q = start-read ss (i - 1) r (omega arith) in
          rw (n, z) (omega (arith, p, q)))
    ]
