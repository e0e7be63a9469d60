-- What the queries for points next to an instant, for points between two and for starts give.
use Rattle.std.proofs.Common.{◌≡◌, ◌↔◌, ◌≤◌, ◌<◌, ◌+◌, ◌&&◌, inl, inr, ℕ, pos, List, [], ◌∷◌, map, find, take, Bool, true, false, cond, Option, option_map, Some, None, Ok, Err, Result, Vec, IfOk, refl, sym, ap, subst, subst₂, ◌∙◌, nat_cmp, Ordering, Less, Equal, Greater, arith, add-one}
use Rattle.std.proofs.lemmas.Bool.{cases_Bool}
use Rattle.std.specs.List.{AllByRecursion, list_all, filter}
use Rattle.std.specs.List.Sorted.{IsPermutation, IsSorted}
use Rattle.std.proofs.lemmas.List.Sorted.{IsPermutation-map}
use Rattle.std.specs.Ordering.{is_eq, is_lt}
use Rattle.std.specs.Cmp.{ranked, nat_cmp_is}
use Rattle.sqlite.specs.declared.types.Value.TheVariants.{Int}
use Rattle.sqlite.specs.declared.error.Error.{Error}
use Rattle.sqlite.specs.Order.{Row, column, value_cmp}
use Rattle.sqlite.specs.Ops.{binary, is_true, from_truth}
use Rattle.sqlite.specs.Term.{holds}
use Rattle.sqlite.specs.Query.{Query, Output, output, output_cmp}
use Rattle.sqlite.specs.State.{State, Shown}
use Rattle.sqlite_value.specs.declared.keys.Collation.TheVariants.{Binary}
use Rattle.sqlite_sql.specs.declared.ops.BinaryOp.TheVariants.{Compare}
use Rattle.sqlite_sql.specs.declared.ops.CompareOp.TheVariants.{Lt, Gt, Le, Ge}
use Rattle.sqlite_value.proofs.OrderLemmas.{value_cmp-Int, then-Equal}
use Rattle.sqlite_trees.proofs.ListLemmas.{all-permutation, all-filter}
use Rattle.pw_obis.specs.declared.reference.Register.{Register}
use Rattle.pw_tariff.specs.declared.ids.AccountId.{AccountId}
use Rattle.pw_tariff.specs.Office.{register_place}
use Rattle.pw_model.specs.declared.records.Key.{Key}
use Rattle.pw_model.specs.declared.records.Key.TheVariants as key
use Rattle.pw_model.specs.Counting.{EachOnce, Member, SameMembers, reading_key, assignment_key}
use Rattle.pw_model.specs.Same.{same_key}
use Rattle.pw_model.proofs.Same.{same_key-decides}
use Rattle.pw_shelf.specs.Seconds.{IsBefore, IsBehind}
use Rattle.pw_schema.specs.Tables.{ours_with, only_one, IsOurs}
use Rattle.pw_schema.specs.Rows.{number, register_at, owner_at}
use Rattle.pw_store.specs.Content.{IsReadingRow, IsAssignmentRow, point_in, start_in}
use Rattle.pw_store.specs.Kept.{IsStore, key_in_point, key_in_start}
use Rattle.sqlite.specs.Schema.{Schema}
use Rattle.sqlite.specs.Listing.{understood}
use Rattle.sqlite.proofs.Callers.{IsPlain}
use Rattle.pw_store.proofs.Querying.{ours_plain}
use Rattle.pw_store.specs.declared.points.Side.{Side}
use Rattle.pw_store.specs.declared.points.Side.TheVariants.{Before, Behind}
use Rattle.pw_store.specs.inner.Seconds.{point_told, start_told, first_point, instant_of, nearest_text, IsNearest}
use Rattle.pw_store.proofs.KeptTexts.{before_text, before_query, before_is, after_text, after_query, after_is, between_text, between_query, between_is, starts_text, starts_query, starts_is}
use Rattle.pw_store.proofs.Once.{permuted}
use Rattle.pw_store.proofs.Scans.{equal_ints, as_ints, tied, scan_of, outputs, answer_of, IsScan}
use Rattle.pw_store.proofs.Lists.{seen}
use Rattle.pw_store.proofs.Finding.{first, second, same_number, meter_of, register_of, second_of}
use Rattle.pw_store.proofs.Adding.{register_back}

-- ---- comparisons
truth_of : (b : Bool) → is_true (from_truth (Some b)) ≡ b
truth_of true = refl
truth_of false = refl

less_ints : (m n : ℕ) → is_true (binary (Compare Lt Binary) (Int (pos m)) (Int (pos n))) ≡ is_lt (nat_cmp m n)
unfolding binary
less_ints m n = truth_of _ ∙ ap is_lt (value_cmp-Int (pos m) (pos n) ∙ as_ints m n _ refl)

abbrev is_more : Ordering → Bool
is_more Less = false
is_more Equal = false
is_more Greater = true

abbrev is_most : Ordering → Bool
is_most Less = true
is_most Equal = true
is_most Greater = false

abbrev pub is_least : Ordering → Bool
is_least Less = false
is_least Equal = true
is_least Greater = true

more_ints : (m n : ℕ) → is_true (binary (Compare Gt Binary) (Int (pos m)) (Int (pos n))) ≡ is_more (nat_cmp m n)
unfolding binary
more_ints m n = truth_of _ ∙ ap is_more (value_cmp-Int (pos m) (pos n) ∙ as_ints m n _ refl)

most_ints : (m n : ℕ) → is_true (binary (Compare Le Binary) (Int (pos m)) (Int (pos n))) ≡ is_most (nat_cmp m n)
unfolding binary
most_ints m n = truth_of _ ∙ ap is_most (value_cmp-Int (pos m) (pos n) ∙ as_ints m n _ refl)

pub least_ints : (m n : ℕ) → is_true (binary (Compare Ge Binary) (Int (pos m)) (Int (pos n))) ≡ is_least (nat_cmp m n)
unfolding binary
least_ints m n = truth_of _ ∙ ap is_least (value_cmp-Int (pos m) (pos n) ∙ as_ints m n _ refl)

below : (m n : ℕ) → is_lt (nat_cmp m n) ≡ true → m < n
below m n e = go (nat_cmp m n) refl e
  where
    go : (o : Ordering) → nat_cmp m n ≡ o → is_lt o ≡ true → m < n
    go Less t f = ranked m n Less (sym t)
    go Equal t f = absurd (let bad : true ≡ false = sym f in cc)
    go Greater t f = absurd (let bad : true ≡ false = sym f in cc)

not_below : (m n : ℕ) → is_lt (nat_cmp m n) ≡ false → n ≤ m
not_below m n e = go (nat_cmp m n) refl e
  where
    go : (o : Ordering) → nat_cmp m n ≡ o → is_lt o ≡ false → n ≤ m
    go Less t f = absurd (let bad : true ≡ false = f in cc)
    go Equal t f = let same : m ≡ n = ranked m n Equal (sym t) in omega (arith, same)
    go Greater t f = let low : n < m = ranked m n Greater (sym t) in omega (arith, low)

above : (m n : ℕ) → is_more (nat_cmp m n) ≡ true → n < m
above m n e = go (nat_cmp m n) refl e
  where
    go : (o : Ordering) → nat_cmp m n ≡ o → is_more o ≡ true → n < m
    go Less t f = absurd (let bad : true ≡ false = sym f in cc)
    go Equal t f = absurd (let bad : true ≡ false = sym f in cc)
    go Greater t f = ranked m n Greater (sym t)

at_most : (m n : ℕ) → is_most (nat_cmp m n) ≡ true → m ≤ n
at_most m n e = go (nat_cmp m n) refl e
  where
    go : (o : Ordering) → nat_cmp m n ≡ o → is_most o ≡ true → m ≤ n
    go Less t f = let low : m < n = ranked m n Less (sym t) in omega (arith, low)
    go Equal t f = let same : m ≡ n = ranked m n Equal (sym t) in omega (arith, same)
    go Greater t f = absurd (let bad : true ≡ false = sym f in cc)

at_least : (m n : ℕ) → is_least (nat_cmp m n) ≡ true → n ≤ m
at_least m n e = go (nat_cmp m n) refl e
  where
    go : (o : Ordering) → nat_cmp m n ≡ o → is_least o ≡ true → n ≤ m
    go Less t f = absurd (let bad : true ≡ false = sym f in cc)
    go Equal t f = let same : m ≡ n = ranked m n Equal (sym t) in omega (arith, same)
    go Greater t f = let low : n < m = ranked m n Greater (sym t) in omega (arith, low)

is_below : (m n : ℕ) → m < n → is_lt (nat_cmp m n) ≡ true
is_below m n l = ap is_lt (sym (nat_cmp_is m n Less l))

is_above : (m n : ℕ) → n < m → is_more (nat_cmp m n) ≡ true
is_above m n l = ap is_more (sym (nat_cmp_is m n Greater l))

compared : (o : Ordering) (m n : ℕ) → nat_cmp m n ≡ o → (m ≤ n → is_most o ≡ true) × (n ≤ m → is_least o ≡ true)
compared Less m n e = (λ l. refl, λ l. let low : m < n = ranked m n Less (sym e) in absurd (omega (arith, low, l)))
compared Equal m n e = (λ l. refl, λ l. refl)
compared Greater m n e = (λ l. let low : n < m = ranked m n Greater (sym e) in absurd (omega (arith, low, l)), λ l. refl)

is_at_most : (m n : ℕ) → m ≤ n → is_most (nat_cmp m n) ≡ true
is_at_most m n l = (compared (nat_cmp m n) m n refl).0 l

pub is_at_least : (m n : ℕ) → n ≤ m → is_least (nat_cmp m n) ≡ true
is_at_least m n l = (compared (nat_cmp m n) m n refl).1 l

-- ---- lists
pub all_member : {X : Type 0} (P : X → Type 0) (xs : List X) (x : X) → AllByRecursion P xs → Member x xs → P x
all_member P [] x all m = absurd m
all_member P (y ∷ ys) x all (inl e) = subst P (sym e) all.0
all_member P (y ∷ ys) x all (inr m) = all_member P ys x all.1 m

find_member : (q : Row → Bool) (rows : List Row) (r : Row) → find q rows ≡ Some r → Member r rows × (q r ≡ true)
find_member q [] r e = absurd (let bad : None ≡ Some r = e in cc)
find_member q (y ∷ rows) r e = go (find_member q rows r) (q y) refl e
  where
    go : (find q rows ≡ Some r → Member r rows × (q r ≡ true)) → (b : Bool) → q y ≡ b → cond b (Some y) (find q rows) ≡ Some r → Member r (y ∷ rows) × (q r ≡ true)
    go more true i f = let same : y ≡ r = cc in (inl (sym same), subst (λ z. q z ≡ true) same i)
    go more false i f = let rest = more f in (inr rest.0, rest.1)

member_image : {X : Type 0} (f : Row → X) (r : Row) (rows : List Row) → Member r rows → Member (f r) (map f rows)
member_image f r [] m = absurd m
member_image f r (y ∷ rows) (inl e) = inl (ap f e)
member_image f r (y ∷ rows) (inr m) = inr (member_image f r rows m)

-- a row whose key no other has is found by it
found_own : (key_in : Row → Key) (rows : List Row) (r : Row) → EachOnce (map key_in rows) → Member r rows → find (λ x. same_key (key_in r) (key_in x)) rows ≡ Some r
found_own key_in [] r once m = absurd m
found_own key_in (y ∷ rows) r once (inl e) = rw ((same_key-decides (key_in r) (key_in y)).1 (ap key_in e)) (ap Some (sym e))
found_own key_in (y ∷ rows) r once (inr m) = elim (cases_Bool (same_key (key_in r) (key_in y))) [
  | inl up ↦ absurd (once.0 (subst (λ k. Member k (map key_in rows)) ((same_key-decides (key_in r) (key_in y)).0 up) (member_image key_in r rows m)))
  | inr down ↦ rw down (found_own key_in rows r once.1 m)
]

module _ {X : Type 0} (f : Row → X) (p : Row → Bool) where
  pub from_kept : (rows : List Row) (x : X) → Member x (map f (filter p rows)) → (r : Row) × Member r rows × (p r ≡ true) × (x ≡ f r)
  from_kept [] x m = absurd m
  from_kept (r ∷ rows) x m = elim (cases_Bool (p r)) [
    | inl hit ↦ (let n : Member x (f r ∷ map f (filter p rows)) = rw hit at m in elim n [
      | inl e ↦ (r, inl refl, hit, e)
      | inr k ↦ (let rest = from_kept rows x k in (rest.0, inr rest.1, rest.2, rest.3))
    ])
    | inr miss ↦ (let n : Member x (map f (filter p rows)) = rw miss at m in let rest = from_kept rows x n in (rest.0, inr rest.1, rest.2, rest.3))
  ]

  pub to_kept : (rows : List Row) (r : Row) → Member r rows → p r ≡ true → Member (f r) (map f (filter p rows))
  to_kept [] r m hit = absurd m
  to_kept (y ∷ rows) r (inl e) hit = rw (subst (λ z. p z ≡ true) e hit) (inl (ap f e))
  to_kept (y ∷ rows) r (inr m) hit = elim (cases_Bool (p y)) [
    | inl up ↦ rw up (inr (to_kept rows r m hit))
    | inr down ↦ rw down (to_kept rows r m hit)
  ]

-- ---- what is told by the second
module _ {X : Type 0} (key_in : Row → Key) (value : Row → X) (at : Row → ℕ) (named : ℕ → Key) (Within : ℕ → Type 0) (p : Row → Bool) (IsRow : Row → Type 0)
    (hits : (r : Row) → IsRow r → p r ≡ true → (key_in r ≡ named (at r)) × Within (at r))
    (misses : (r : Row) (t : ℕ) → IsRow r → Within t → key_in r ≡ named t → (p r ≡ true) × (at r ≡ t)) where
  abbrev pub told : List Row → ℕ → Option X
  told rows t = option_map value (find (λ r. same_key (named t) (key_in r)) rows)

  abbrev pub pair : Row → ℕ × X
  pair r = (at r, value r)

  own : (rows : List Row) (r : Row) → EachOnce (map key_in rows) → Member r rows → key_in r ≡ named (at r) → told rows (at r) ≡ Some (value r)
  own rows r once m e = ap (option_map value) (subst (λ k. find (λ x. same_key k (key_in x)) rows ≡ Some r) e (found_own key_in rows r once m))

  pub seconds : (rows : List Row) → AllByRecursion IsRow rows → EachOnce (map key_in rows) → (x : ℕ × X) → Member x (map pair (filter p rows)) ↔ (Within x.0 × (told rows x.0 ≡ Some x.1))
  seconds rows all once x = (
    λ m.
        let it = from_kept pair p rows x m in
        let good = hits it.0 (all_member IsRow rows it.0 all it.1) it.2 in
        subst (λ (y : ℕ × X). Within y.0 × (told rows y.0 ≡ Some y.1)) (sym it.3) (good.1, own rows it.0 once it.1 good.0),
    λ h. go (find (λ r. same_key (named x.0) (key_in r)) rows) refl h.0 h.1,
  )
    where
      go : (o : Option Row) → find (λ r. same_key (named x.0) (key_in r)) rows ≡ o → Within x.0 → option_map value o ≡ Some x.1 → Member x (map pair (filter p rows))
      go None e within is = absurd (let bad : None ≡ Some x.1 = is in cc)
      go (Some r) e within is =
          let it = find_member (λ r. same_key (named x.0) (key_in r)) rows r e in
          let one = misses r x.0 (all_member IsRow rows r all it.0) within (sym ((same_key-decides (named x.0) (key_in r)).0 it.1)) in
          let same : value r ≡ x.1 = cc in
          subst (λ (y : ℕ × X). Member y (map pair (filter p rows))) (λ i. (one.1 i, same i)) (to_kept pair p rows r it.0 one.0)

-- ---- points
abbrev second_at : Row → ℕ
second_at r = number (column r 3)

abbrev wh_at : Row → ℕ
wh_at r = number (column r 4)

abbrev pairs : Row → ℕ × ℕ
pairs r = (number (column r 3), number (column r 4))

row_key : (r : Row) (m : ℕ) (g : Register) → IsReadingRow r → number (column r 1) ≡ m → number (column r 2) ≡ register_place g → key_in_point r ≡ reading_key m g (second_at r)
row_key r m g it em eg = let er = ap register_at eg ∙ register_back g in λ j. key.Reading (record { 0 = em j }) (er j) (number (column r 3))

key_row : (r : Row) (m : ℕ) (g : Register) (t : ℕ) → IsReadingRow r → key_in_point r ≡ reading_key m g t → (number (column r 1) ≡ m) × (number (column r 2) ≡ register_place g) × (second_at r ≡ t)
key_row r m g t it e = (ap meter_of e, ap number it.1.0 ∙ ap register_place (ap register_of e), ap second_of e)

module _ (m : ℕ) (g : Register) (t : ℕ) where
  abbrev params : Row
  params = Int (pos m) ∷ Int (pos (register_place g)) ∷ Int (pos t) ∷ []

  abbrev pub passes_before : Row → Bool
  passes_before r = list_all (holds (params ∷ r ∷ [])) before_query.filter

  tests_before : (r : Row) → IsReadingRow r → passes_before r ≡ (is_eq (nat_cmp (number (column r 1)) m) && (is_eq (nat_cmp (number (column r 2)) (register_place g)) && (is_lt (nat_cmp (number (column r 3)) t) && true)))
  tests_before r it = rw (it.0, it.1.0, it.1.1.0) (rw (equal_ints (number (column r 1)) m, equal_ints (register_place (register_at (number (column r 2)))) (register_place g), less_ints (number (column r 3)) t) refl)

  hits_before : (r : Row) → IsReadingRow r → passes_before r ≡ true → (key_in_point r ≡ reading_key m g (second_at r)) × (second_at r < t)
  hits_before r it hit =
      let h = sym (tests_before r it) ∙ hit in
      let h1 = second (is_eq (nat_cmp (number (column r 1)) m)) _ h in
      let h2 = second (is_eq (nat_cmp (number (column r 2)) (register_place g))) _ h1 in
      (row_key r m g it (tied (number (column r 1)) m (first _ _ h)) (tied (number (column r 2)) (register_place g) (first _ _ h1)), below (second_at r) t (first _ _ h2))

  misses_before : (r : Row) (u : ℕ) → IsReadingRow r → u < t → key_in_point r ≡ reading_key m g u → (passes_before r ≡ true) × (second_at r ≡ u)
  misses_before r u it low e =
      let k = key_row r m g u it e in
      (tests_before r it ∙ rw (k.0, k.1, k.2) (rw (same_number m, same_number (register_place g), is_below u t low) refl), k.2)

  abbrev pub passes_after : Row → Bool
  passes_after r = list_all (holds (params ∷ r ∷ [])) after_query.filter

  tests_after : (r : Row) → IsReadingRow r → passes_after r ≡ (is_eq (nat_cmp (number (column r 1)) m) && (is_eq (nat_cmp (number (column r 2)) (register_place g)) && (is_more (nat_cmp (number (column r 3)) t) && true)))
  tests_after r it = rw (it.0, it.1.0, it.1.1.0) (rw (equal_ints (number (column r 1)) m, equal_ints (register_place (register_at (number (column r 2)))) (register_place g), more_ints (number (column r 3)) t) refl)

  hits_after : (r : Row) → IsReadingRow r → passes_after r ≡ true → (key_in_point r ≡ reading_key m g (second_at r)) × (t < second_at r)
  hits_after r it hit =
      let h = sym (tests_after r it) ∙ hit in
      let h1 = second (is_eq (nat_cmp (number (column r 1)) m)) _ h in
      let h2 = second (is_eq (nat_cmp (number (column r 2)) (register_place g))) _ h1 in
      (row_key r m g it (tied (number (column r 1)) m (first _ _ h)) (tied (number (column r 2)) (register_place g) (first _ _ h1)), above (second_at r) t (first _ _ h2))

  misses_after : (r : Row) (u : ℕ) → IsReadingRow r → t < u → key_in_point r ≡ reading_key m g u → (passes_after r ≡ true) × (second_at r ≡ u)
  misses_after r u it high e =
      let k = key_row r m g u it e in
      (tests_after r it ∙ rw (k.0, k.1, k.2) (rw (same_number m, same_number (register_place g), is_above u t high) refl), k.2)

-- ---- the outputs of a query, by their second
abbrev inst : Output → ℕ
inst o = number (column o.1 0)

abbrev IsBySecond : Output → Type 0
IsBySecond o = o.0 ≡ Int (pos (inst o)) ∷ []

ints : (a b : ℕ) → value_cmp (Int (pos a)) (Int (pos b)) ≡ nat_cmp a b
ints a b = value_cmp-Int (pos a) (pos b) ∙ as_ints a b _ refl

later : (q : Query) (x : Output) (xs : List Output) → IsSorted (output_cmp q) (x ∷ xs) → IsSorted (output_cmp q) xs
later q x xs h = λ k d low high. simp add-one (simp add-one at (h (k + 1) d (omega arith) (omega (arith, high))))

abbrev told_by : Output → ℕ × ℕ
told_by o = point_told o.1

low_of : (top s w : ℕ) (os : List Output) → AllByRecursion (λ y. inst y ≤ top) os → Member (s, w) (map told_by os) → s ≤ top
low_of top s w [] all m = absurd m
low_of top s w (o ∷ os) all (inl e) = subst (λ n. n ≤ top) (sym (ap (λ (x : ℕ × ℕ). x.0) e)) all.0
low_of top s w (o ∷ os) all (inr m) = low_of top s w os all.1 m

high_of : (end s w : ℕ) (os : List Output) → AllByRecursion (λ y. end ≤ inst y) os → Member (s, w) (map told_by os) → end ≤ s
high_of end s w [] all m = absurd m
high_of end s w (o ∷ os) all (inl e) = subst (λ n. end ≤ n) (sym (ap (λ (x : ℕ × ℕ). x.0) e)) all.0
high_of end s w (o ∷ os) all (inr m) = high_of end s w os all.1 m

abbrev down : Query
down = scan_of 7 before_query

abbrev up : Query
up = scan_of 7 after_query

down_order : (a b : Output) → IsBySecond a → IsBySecond b → output_cmp down a b ≡ nat_cmp (inst b) (inst a)
down_order a b ka kb = rw (ka, kb) (rw (ints (inst b) (inst a)) (then-Equal (nat_cmp (inst b) (inst a))))

up_order : (a b : Output) → IsBySecond a → IsBySecond b → output_cmp up a b ≡ nat_cmp (inst a) (inst b)
up_order a b ka kb = rw (ka, kb) (rw (ints (inst a) (inst b)) (then-Equal (nat_cmp (inst a) (inst b))))

next_down : (x y : Output) (xs : List Output) → IsBySecond x → IsBySecond y → IsSorted (output_cmp down) (x ∷ y ∷ xs) → inst y ≤ inst x
next_down x y xs kx ky h =
    let at : is_lt (output_cmp down y x) ≡ false = h 0 x (omega arith) (omega arith) in
    not_below (inst x) (inst y) (ap is_lt (sym (down_order y x ky kx)) ∙ at)

next_up : (x y : Output) (xs : List Output) → IsBySecond x → IsBySecond y → IsSorted (output_cmp up) (x ∷ y ∷ xs) → inst x ≤ inst y
next_up x y xs kx ky h =
    let at : is_lt (output_cmp up y x) ≡ false = h 0 x (omega arith) (omega arith) in
    not_below (inst y) (inst x) (ap is_lt (sym (up_order y x ky kx)) ∙ at)

tops : (top : ℕ) (x : Output) (xs : List Output) → inst x ≤ top → AllByRecursion IsBySecond (x ∷ xs) → IsSorted (output_cmp down) (x ∷ xs) → AllByRecursion (λ y. inst y ≤ top) (x ∷ xs)
tops top x [] low all h = (low, tt)
tops top x (y ∷ xs) low all h = (low, tops top y xs (let step = next_down x y xs all.0 all.1.0 h in omega (arith, low, step)) all.1 (later down x (y ∷ xs) h))

ends : (end : ℕ) (x : Output) (xs : List Output) → end ≤ inst x → AllByRecursion IsBySecond (x ∷ xs) → IsSorted (output_cmp up) (x ∷ xs) → AllByRecursion (λ y. end ≤ inst y) (x ∷ xs)
ends end x [] low all h = (low, tt)
ends end x (y ∷ xs) low all h = (low, ends end y xs (let step = next_up x y xs all.0 all.1.0 h in omega (arith, low, step)) all.1 (later up x (y ∷ xs) h))

module _ (m : ℕ) (g : Register) (t : ℕ) (table : List Row) (rows_are : AllByRecursion IsReadingRow table) (once : EachOnce (map key_in_point table)) where
  abbrev shows_point : ℕ → Option ℕ
  shows_point = point_in table m g

  by_down : (rows : List Row) → AllByRecursion IsReadingRow rows → AllByRecursion IsBySecond (map (output down) (map (λ r. params m g t ∷ r ∷ []) rows))
  by_down [] all = tt
  by_down (r ∷ rows) all = (ap (λ v. v ∷ []) all.0.1.1.0, by_down rows all.1)

  by_up : (rows : List Row) → AllByRecursion IsReadingRow rows → AllByRecursion IsBySecond (map (output up) (map (λ r. params m g t ∷ r ∷ []) rows))
  by_up [] all = tt
  by_up (r ∷ rows) all = (ap (λ v. v ∷ []) all.0.1.1.0, by_up rows all.1)

  pairs_down : (rows : List Row) → map told_by (map (output down) (map (λ r. params m g t ∷ r ∷ []) rows)) ≡ map pairs rows
  pairs_down [] = refl
  pairs_down (r ∷ rows) = ap (λ xs. pairs r ∷ xs) (pairs_down rows)

  pairs_up : (rows : List Row) → map told_by (map (output up) (map (λ r. params m g t ∷ r ∷ []) rows)) ≡ map pairs rows
  pairs_up [] = refl
  pairs_up (r ∷ rows) = ap (λ xs. pairs r ∷ xs) (pairs_up rows)

  pub before_is_last : (rows : List Row) → IsScan down (params m g t) table rows → IsBefore shows_point t (first_point rows)
  before_is_last rows s = go s.ordered s.same s.sorted s.shown
    where
      go : (ordered : List Output) → IsPermutation (outputs down (params m g t) table) ordered → IsSorted (output_cmp down) ordered → rows ≡ take 1 (map (λ (o : Output). o.1) ordered) → IsBefore shows_point t (first_point rows)
      go ordered same sorted shown = by ordered same sorted shown (λ x. (
        λ h. (there x).0 ((spec x).1 h),
        λ n. (spec x).0 ((there x).1 n),
      ))
        where
          spec : (x : ℕ × ℕ) → Member x (map pairs (filter (passes_before m g t) table)) ↔ ((x.0 < t) × (shows_point x.0 ≡ Some x.1))
          spec = seconds key_in_point wh_at second_at (reading_key m g) (λ u. u < t) (passes_before m g t) IsReadingRow (hits_before m g t) (misses_before m g t) table rows_are once

          there : SameMembers (map pairs (filter (passes_before m g t) table)) (map told_by ordered)
          there = permuted _ _ (subst (λ xs. IsPermutation xs (map told_by ordered)) (pairs_down (filter (passes_before m g t) table)) (IsPermutation-map told_by (outputs down (params m g t) table) ordered same))

          by : (os : List Output) → IsPermutation (outputs down (params m g t) table) os → IsSorted (output_cmp down) os → rows ≡ take 1 (map (λ (o : Output). o.1) os)
              → ((x : ℕ × ℕ) → ((x.0 < t) × (shows_point x.0 ≡ Some x.1) → Member x (map told_by os)) × (Member x (map told_by os) → (x.0 < t) × (shows_point x.0 ≡ Some x.1))) → IsBefore shows_point t (first_point rows)
          by [] same sorted shown members = subst (λ xs. IsBefore shows_point t (first_point xs)) (sym shown) (λ u low. none u low (shows_point u) refl)
            where
              none : (u : ℕ) → u < t → (o : Option ℕ) → shows_point u ≡ o → o ≡ None
              none u low None e = refl
              none u low (Some w) e = absurd ((members (u, w)).0 (low, e))
          by (o ∷ os) same sorted shown members = subst (λ xs. IsBefore shows_point t (first_point xs)) (sym shown) (record {
            here = ((members (told_by o)).1 (inl refl)).1;
            before = ((members (told_by o)).1 (inl refl)).0;
            between = λ u more low. none u more low (shows_point u) refl;
          })
            where
              all : AllByRecursion IsBySecond (o ∷ os)
              all = all-permutation IsBySecond (outputs down (params m g t) table) (o ∷ os) same (by_down (filter (passes_before m g t) table) (all-filter IsReadingRow (passes_before m g t) table rows_are))

              none : (u : ℕ) → inst o < u → u < t → (v : Option ℕ) → shows_point u ≡ v → v ≡ None
              none u more low None e = refl
              none u more low (Some w) e = absurd (let top = low_of (inst o) u w (o ∷ os) (tops (inst o) o os (omega arith) all sorted) ((members (u, w)).0 (low, e)) in omega (arith, top, more))

  pub after_is_first : (rows : List Row) → IsScan up (params m g t) table rows → IsBehind shows_point t (first_point rows)
  after_is_first rows s = go s.ordered s.same s.sorted s.shown
    where
      go : (ordered : List Output) → IsPermutation (outputs up (params m g t) table) ordered → IsSorted (output_cmp up) ordered → rows ≡ take 1 (map (λ (o : Output). o.1) ordered) → IsBehind shows_point t (first_point rows)
      go ordered same sorted shown = by ordered same sorted shown (λ x. (
        λ h. (there x).0 ((spec x).1 h),
        λ n. (spec x).0 ((there x).1 n),
      ))
        where
          spec : (x : ℕ × ℕ) → Member x (map pairs (filter (passes_after m g t) table)) ↔ ((t < x.0) × (shows_point x.0 ≡ Some x.1))
          spec = seconds key_in_point wh_at second_at (reading_key m g) (λ u. t < u) (passes_after m g t) IsReadingRow (hits_after m g t) (misses_after m g t) table rows_are once

          there : SameMembers (map pairs (filter (passes_after m g t) table)) (map told_by ordered)
          there = permuted _ _ (subst (λ xs. IsPermutation xs (map told_by ordered)) (pairs_up (filter (passes_after m g t) table)) (IsPermutation-map told_by (outputs up (params m g t) table) ordered same))

          by : (os : List Output) → IsPermutation (outputs up (params m g t) table) os → IsSorted (output_cmp up) os → rows ≡ take 1 (map (λ (o : Output). o.1) os)
              → ((x : ℕ × ℕ) → ((t < x.0) × (shows_point x.0 ≡ Some x.1) → Member x (map told_by os)) × (Member x (map told_by os) → (t < x.0) × (shows_point x.0 ≡ Some x.1))) → IsBehind shows_point t (first_point rows)
          by [] same sorted shown members = subst (λ xs. IsBehind shows_point t (first_point xs)) (sym shown) (λ u high. none u high (shows_point u) refl)
            where
              none : (u : ℕ) → t < u → (o : Option ℕ) → shows_point u ≡ o → o ≡ None
              none u high None e = refl
              none u high (Some w) e = absurd ((members (u, w)).0 (high, e))
          by (o ∷ os) same sorted shown members = subst (λ xs. IsBehind shows_point t (first_point xs)) (sym shown) (record {
            here = ((members (told_by o)).1 (inl refl)).1;
            behind = ((members (told_by o)).1 (inl refl)).0;
            between = λ u high less. none u high less (shows_point u) refl;
          })
            where
              all : AllByRecursion IsBySecond (o ∷ os)
              all = all-permutation IsBySecond (outputs up (params m g t) table) (o ∷ os) same (by_up (filter (passes_after m g t) table) (all-filter IsReadingRow (passes_after m g t) table rows_are))

              none : (u : ℕ) → t < u → u < inst o → (v : Option ℕ) → shows_point u ≡ v → v ≡ None
              none u high less None e = refl
              none u high less (Some w) e = absurd (let end = high_of (inst o) u w (o ∷ os) (ends (inst o) o os (omega arith) all sorted) ((members (u, w)).0 (high, e)) in omega (arith, end, less))

before_if : {Z : Type 0} (old new : State) (m : ℕ) (g : Register) (t : ℕ) (out : Result (Vec Row Z) Error) → IsStore old.now → IfOk out (λ rows. Shown before_text (params m g t) old new rows.items)
    → IfOk out (λ rows. IsBefore (point_in (old.now.trees 7) m g) t (first_point rows.items))
before_if old new m g t (Err e) store h = tt
before_if old new m g t (Ok rows) store h =
    let own = only_one in
    before_is_last m g t (old.now.trees 7) store.points.each store.points.once rows.items
    (answer_of (ours_with own) before_text (params m g t) old new before_is.names 7 before_query rows.items store.ours (before_is.is own) (before_is.plain own) (before_is.unlisted own) h)

after_if : {Z : Type 0} (old new : State) (m : ℕ) (g : Register) (t : ℕ) (out : Result (Vec Row Z) Error) → IsStore old.now → IfOk out (λ rows. Shown after_text (params m g t) old new rows.items)
    → IfOk out (λ rows. IsBehind (point_in (old.now.trees 7) m g) t (first_point rows.items))
after_if old new m g t (Err e) store h = tt
after_if old new m g t (Ok rows) store h =
    let own = only_one in
    after_is_first m g t (old.now.trees 7) store.points.each store.points.once rows.items
    (answer_of (ours_with own) after_text (params m g t) old new after_is.names 7 after_query rows.items store.ours (after_is.is own) (after_is.plain own) (after_is.unlisted own) h)

-- on a side
pub nearest_if : {Z : Type 0} (side : Side) (old new : State) (m : ℕ) (g : Register) (out : Result (Vec Row Z) Error) → IsStore old.now → IfOk out (λ rows. Shown (nearest_text side) (params m g (instant_of side)) old new rows.items)
    → IfOk out (λ rows. IsNearest side (point_in (old.now.trees 7) m g) (first_point rows.items))
nearest_if (Before t) old new m g = before_if old new m g t
nearest_if (Behind t) old new m g = after_if old new m g t

pub nearest_plain : (side : Side) (s : Schema) → IsOurs s → IsPlain (understood s (nearest_text side))
nearest_plain (Before t) = ours_plain before_is
nearest_plain (Behind t) = ours_plain after_is

-- ---- points between two seconds
module _ (m : ℕ) (g : Register) (from to : ℕ) where
  abbrev bounds : Row
  bounds = Int (pos m) ∷ Int (pos (register_place g)) ∷ Int (pos from) ∷ Int (pos to) ∷ []

  abbrev pub passes_between : Row → Bool
  passes_between r = list_all (holds (bounds ∷ r ∷ [])) between_query.filter

  tests_between : (r : Row) → IsReadingRow r → passes_between r ≡ (is_eq (nat_cmp (number (column r 1)) m) && (is_eq (nat_cmp (number (column r 2)) (register_place g)) && (is_least (nat_cmp (number (column r 3)) from) && (is_most (nat_cmp (number (column r 3)) to) && true))))
  tests_between r it = rw (it.0, it.1.0, it.1.1.0) (rw (equal_ints (number (column r 1)) m, equal_ints (register_place (register_at (number (column r 2)))) (register_place g), least_ints (number (column r 3)) from, most_ints (number (column r 3)) to) refl)

  hits_between : (r : Row) → IsReadingRow r → passes_between r ≡ true → (key_in_point r ≡ reading_key m g (second_at r)) × ((from ≤ second_at r) × (second_at r ≤ to))
  hits_between r it hit =
      let h = sym (tests_between r it) ∙ hit in
      let h1 = second (is_eq (nat_cmp (number (column r 1)) m)) _ h in
      let h2 = second (is_eq (nat_cmp (number (column r 2)) (register_place g))) _ h1 in
      let h3 = second (is_least (nat_cmp (number (column r 3)) from)) _ h2 in
      (row_key r m g it (tied (number (column r 1)) m (first _ _ h)) (tied (number (column r 2)) (register_place g) (first _ _ h1)), (at_least (second_at r) from (first _ _ h2), at_most (second_at r) to (first _ _ h3)))

  misses_between : (r : Row) (u : ℕ) → IsReadingRow r → (from ≤ u) × (u ≤ to) → key_in_point r ≡ reading_key m g u → (passes_between r ≡ true) × (second_at r ≡ u)
  misses_between r u it within e =
      let k = key_row r m g u it e in
      (tests_between r it ∙ rw (k.0, k.1, k.2) (rw (same_number m, same_number (register_place g), is_at_least u from within.0, is_at_most u to within.1) refl), k.2)

  pairs_between : (rows : List Row) → map point_told (map (λ (o : Output). o.1) (map (output (scan_of 7 between_query)) (map (λ r. bounds ∷ r ∷ []) rows))) ≡ map pairs rows
  pairs_between [] = refl
  pairs_between (r ∷ rows) = ap (λ xs. pairs r ∷ xs) (pairs_between rows)

pub between_if : {Z : Type 0} (old new : State) (m : ℕ) (g : Register) (from to : ℕ) (out : Result (Vec Row Z) Error) → IsStore old.now → IfOk out (λ rows. Shown between_text (bounds m g from to) old new rows.items)
    → IfOk out (λ rows. (x : ℕ × ℕ) → Member x (map point_told rows.items) ↔ ((from ≤ x.0) × (x.0 ≤ to) × (point_in (old.now.trees 7) m g x.0 ≡ Some x.1)))
between_if old new m g from to (Err e) store h = tt
between_if old new m g from to (Ok rows) store h =
    let table = old.now.trees 7 in
    let s = seen between_text 7 between_query between_is (bounds m g from to) old new rows.items store.ours h in
    let moved = IsPermutation-map point_told _ _ s.1 in
    let same = permuted _ _ (subst₂ IsPermutation (pairs_between m g from to (filter (passes_between m g from to) table)) (ap (map point_told) (sym s.2)) moved) in
    let spec = seconds key_in_point wh_at second_at (reading_key m g) (λ u. (from ≤ u) × (u ≤ to)) (passes_between m g from to) IsReadingRow (hits_between m g from to) (misses_between m g from to) table store.points.each store.points.once in
    λ x. (
      λ n. (let it = (spec x).0 ((same x).1 n) in (it.0.0, it.0.1, it.1)),
      λ it. (same x).0 ((spec x).1 ((it.0, it.1), it.2)),
    )

-- ---- starts
abbrev start_at : Row → ℕ
start_at r = number (column r 2)

abbrev owner_of_row : Row → Option AccountId
owner_of_row r = owner_at (number (column r 3))

abbrev start_pairs : Row → ℕ × Option AccountId
start_pairs r = (number (column r 2), owner_at (number (column r 3)))

module _ (m : ℕ) where
  abbrev meter : Row
  meter = Int (pos m) ∷ []

  abbrev pub passes_start : Row → Bool
  passes_start r = list_all (holds (meter ∷ r ∷ [])) starts_query.filter

  tests_start : (r : Row) → IsAssignmentRow r → passes_start r ≡ (is_eq (nat_cmp (number (column r 1)) m) && true)
  tests_start r it = rw it.0 (rw (equal_ints (number (column r 1)) m) refl)

  hits_start : (r : Row) → IsAssignmentRow r → passes_start r ≡ true → (key_in_start r ≡ assignment_key m (start_at r)) × Unit {0}
  hits_start r it hit =
      let em = tied (number (column r 1)) m (first _ _ (sym (tests_start r it) ∙ hit)) in
      (λ j. key.Assignment (record { 0 = em j }) (number (column r 2)), tt)

  misses_start : (r : Row) (u : ℕ) → IsAssignmentRow r → Unit {0} → key_in_start r ≡ assignment_key m u → (passes_start r ≡ true) × (start_at r ≡ u)
  misses_start r u it any e =
      let em : number (column r 1) ≡ m = ap meter_of e in
      (tests_start r it ∙ rw em (rw (same_number m) refl), ap second_of e)

  pairs_start : (rows : List Row) → map start_told (map (λ (o : Output). o.1) (map (output (scan_of 9 starts_query)) (map (λ r. meter ∷ r ∷ []) rows))) ≡ map start_pairs rows
  pairs_start [] = refl
  pairs_start (r ∷ rows) = ap (λ xs. start_pairs r ∷ xs) (pairs_start rows)

pub starts_if : {Z : Type 0} (old new : State) (m : ℕ) (out : Result (Vec Row Z) Error) → IsStore old.now → IfOk out (λ rows. Shown starts_text (meter m) old new rows.items)
    → IfOk out (λ rows. (x : ℕ × Option AccountId) → Member x (map start_told rows.items) ↔ (start_in (old.now.trees 9) m x.0 ≡ Some x.1))
starts_if old new m (Err e) store h = tt
starts_if old new m (Ok rows) store h =
    let table = old.now.trees 9 in
    let s = seen starts_text 9 starts_query starts_is (meter m) old new rows.items store.ours h in
    let moved = IsPermutation-map start_told _ _ s.1 in
    let same = permuted _ _ (subst₂ IsPermutation (pairs_start m (filter (passes_start m) table)) (ap (map start_told) (sym s.2)) moved) in
    let spec = seconds key_in_start owner_of_row start_at (assignment_key m) (λ u. Unit {0}) (passes_start m) IsAssignmentRow (hits_start m) (misses_start m) table store.starts.each store.starts.once in
    λ x. (
      λ n. ((spec x).0 ((same x).1 n)).1,
      λ it. (same x).0 ((spec x).1 (tt, it)),
    )
