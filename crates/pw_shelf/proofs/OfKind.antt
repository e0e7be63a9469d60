-- The records of one kind stand together in a set in order.
use Rattle.std.proofs.Common.{◌≡◌, ℕ, ◌≤◌, true, List, [], ◌∷◌, ◌++◌, refl, sym, ap, subst, ◌∙◌, inl, inr, lit≤, arith}
use Rattle.std.specs.List.{filter}
use Rattle.std.specs.List.Sorted.{IsStrictlySortedBy}
use Rattle.std.specs.Ordering.{is_le, ordering_then, nat_cmp}
use Rattle.std.specs.Cmp.Lexicographic.{slice_cmp}
use Rattle.std.specs.declared.cmp.Ordering.{Ordering}
use Rattle.std.specs.declared.cmp.Ordering.TheVariants.{Less, Equal, Greater}
use Rattle.std.proofs.lemmas.Bool.{true≢false, cases_lt}
use Rattle.std.proofs.lemmas.Bool.Decides.{nat_tests}
use Rattle.std.proofs.lemmas.List.Elements.{All-head, All-cons, All-nil}
use Rattle.pw_obis.specs.declared.reference.Register.{Register}
use Rattle.pw_obis.specs.declared.reference.Register.TheVariants.{I0}
use Rattle.pw_time.specs.declared.instant.TheConstants.{FIRST_SECOND}
use Rattle.pw_tariff.specs.Office.{register_place}
use Rattle.pw_tariff.specs.declared.ids.MeterId.{MeterId}
use Rattle.pw_model.specs.declared.records.Key.{Key}
use Rattle.pw_model.specs.declared.records.Key.TheVariants as key
use Rattle.pw_model.specs.declared.records.Named.TheVariants as named
use Rattle.pw_model.specs.declared.records.Named.{Named}
use Rattle.pw_model.specs.declared.records.Entry.{Entry}
use Rattle.pw_model.specs.References.{IsReference, is_reference_byte}
use Rattle.pw_model.specs.Same.{key_numbers, named_numbers, key_order as listed_order}
use Rattle.pw_model.specs.inner.Keys.{HasReference}
use Rattle.pw_model.specs.Counting.{Member}
use Rattle.pw_model.proofs.InKeyOrder.{keys-ordered}
use Rattle.pw_model.proofs.Same.{register-one}
use Rattle.pw_shelf.specs.declared.lists.Kind.{Kind}
use Rattle.pw_shelf.specs.declared.lists.Kind.TheVariants.{Readings, Assignments, TopUps, Withdrawals}
use Rattle.pw_shelf.specs.inner.Held.{IsNamed, AreNamed}
use Rattle.pw_shelf.specs.inner.Kinds.{IsOfKind, lowest, lowest_key}
use Rattle.pw_model.specs.Kinds.{ListsHeld}
use Rattle.pw_shelf.proofs.InOrder.{order}
use Rattle.pw_shelf.proofs.AtKey.{key_order, content-lowest, from, and-both, from-le, kept-member, member-kept, sorted-kept, after, member-in, member-mid}
use Rattle.pw_shelf.proofs.Listing.{reference, member-front}

-- ---- numbers compared in turn
squeezed : (a f : ℕ) (x y : Ordering) → is_le (ordering_then (nat_cmp a f) x) ≡ true → is_le (ordering_then (nat_cmp f a) y) ≡ true → (f ≡ a) × (is_le x ≡ true) × (is_le y ≡ true)
squeezed a f x y h i = elim (cases_lt a f) [
  | inl l ↦ (let g : nat_cmp f a ≡ Greater = grind (arith, nat_tests) in absurd (true≢false (sym i ∙ (rw g refl))))
  | inr l ↦ elim (cases_lt f a) [
    | inl m ↦ (let g : nat_cmp a f ≡ Greater = grind (arith, nat_tests) in absurd (true≢false (sym h ∙ (rw g refl))))
    | inr m ↦ (let e : f ≡ a = omega arith in
        let g : nat_cmp a f ≡ Equal = grind (arith, nat_tests) in
        let k : nat_cmp f a ≡ Equal = grind (arith, nat_tests) in
        (e, (rw g at h), (rw k at i)))
  ]
]

then-both : (o p : Ordering) → is_le o ≡ true → is_le p ≡ true → is_le (ordering_then o p) ≡ true
then-both Less p h i = refl
then-both Equal p h i = i
then-both Greater p h i = cc

then-first : (o p : Ordering) → is_le (ordering_then o p) ≡ true → is_le o ≡ true
then-first Less p h = refl
then-first Equal p h = refl
then-first Greater p h = cc

less-first : (o p : Ordering) → ordering_then o p ≡ Less → is_le o ≡ true
less-first Less p h = refl
less-first Equal p h = refl
less-first Greater p h = cc

number-le : (a b : ℕ) → a ≤ b → is_le (nat_cmp a b) ≡ true
number-le a b h = grind (arith, nat_tests)

same-le : (a b : ℕ) → a ≡ b → is_le (nat_cmp a b) ≡ true
same-le a b h = grind (arith, nat_tests)

byte-least : (c : ℕ) → is_reference_byte c ≡ true → 45 ≤ c
byte-least c h = grind (arith, nat_tests)

empty-first : (xs : List ℕ) → is_le (slice_cmp nat_cmp [] xs) ≡ true
empty-first [] = refl
empty-first (x ∷ xs) = refl

text-least : (r : List ℕ) → IsReference r → is_le (slice_cmp nat_cmp (45 ∷ []) r) ≡ true
text-least [] h = absurd (omega (arith, h.0))
text-least (c ∷ cs) h = then-both (nat_cmp 45 c) (slice_cmp nat_cmp [] cs) (number-le 45 c (byte-least c (All-head (λ x. is_reference_byte x ≡ true) c cs h.2))) (empty-first cs)

-- ---- keys of one kind
-- of those that withdrawals name too
named-least : (x : Named) → IsNamed (key.Withdrawal x) → is_le (slice_cmp nat_cmp (named_numbers (named.Reading (record { 0 = 0 }) I0 FIRST_SECOND 0)) (named_numbers x)) ≡ true
unfolding named_numbers
named-least (named.Reading m r t w) i =
    then-both (nat_cmp 0 m.0) _ (number-le 0 m.0 (omega arith))
    (then-both (nat_cmp 0 (register_place r)) _ (number-le 0 (register_place r) (omega arith)) (then-both (nat_cmp _ t) _ (number-le _ t i.0) (then-both (nat_cmp 0 w) Equal (number-le 0 w (omega arith)) refl)))
named-least (named.Assignment m t o) i = refl
named-least (named.TopUp r a c t) i = refl

-- none stands before the lowest
lowest-le : (k : Kind) (l : Key) → IsOfKind k l → IsNamed l → is_le (listed_order (lowest_key k) l) ≡ true
unfolding key_numbers
lowest-le (Readings m r) (key.Reading n s t) o i =
    then-both (nat_cmp m.0 n.0) _ (same-le m.0 n.0 (ap (λ (x : MeterId). x.0) (sym o.0)))
    (then-both (nat_cmp (register_place r) (register_place s)) _ (same-le _ _ (ap register_place (sym o.1))) (then-both (nat_cmp _ t) Equal (number-le _ t i.0) refl))
lowest-le (Assignments m) (key.Assignment n t) o i =
    then-both (nat_cmp m.0 n.0) _ (same-le m.0 n.0 (ap (λ (x : MeterId). x.0) (sym o))) (then-both (nat_cmp _ t) Equal (number-le _ t i.0) refl)
lowest-le TopUps (key.TopUp r) o i = text-least r i
lowest-le Withdrawals (key.Withdrawal x) o i = named-least x i
lowest-le (Readings m r) (key.Assignment n t) o i = absurd o
lowest-le (Readings m r) (key.TopUp s) o i = absurd o
lowest-le (Assignments m) (key.Reading n s t) o i = absurd o
lowest-le (Assignments m) (key.TopUp s) o i = absurd o
lowest-le TopUps (key.Reading n s t) o i = absurd o
lowest-le TopUps (key.Assignment n t) o i = absurd o
lowest-le (Readings m r) (key.Withdrawal x) o i = absurd o
lowest-le (Assignments m) (key.Withdrawal x) o i = absurd o
lowest-le TopUps (key.Withdrawal x) o i = absurd o
lowest-le Withdrawals (key.Reading n s t) o i = absurd o
lowest-le Withdrawals (key.Assignment n t) o i = absurd o
lowest-le Withdrawals (key.TopUp r) o i = absurd o

meters-one : (n m : MeterId) → n.0 ≡ m.0 → n ≡ m
meters-one n m h = ap (λ (x : ℕ). record { 0 = x }) h

-- what stands between the lowest and a key of the kind is of the kind
key-between : (k : Kind) (l e : Key) → is_le (listed_order (lowest_key k) l) ≡ true → is_le (listed_order l e) ≡ true → IsOfKind k e → IsOfKind k l
unfolding key_numbers
key-between (Readings m r) (key.Reading n s t) (key.Reading p q u) h i o =
    let P : MeterId → Type 0 = λ x. is_le (ordering_then (nat_cmp n.0 x.0) (ordering_then (nat_cmp (register_place s) (register_place q)) (ordering_then (nat_cmp t u) Equal))) ≡ true in
    let Q : Register → Type 0 = λ x. is_le (ordering_then (nat_cmp (register_place s) (register_place x)) (ordering_then (nat_cmp t u) Equal)) ≡ true in
    let a = squeezed m.0 n.0 _ _ h (subst P o.0 i) in
    let b = squeezed (register_place r) (register_place s) _ _ a.1 (subst Q o.1 a.2) in
    (meters-one n m a.0, register-one s r b.0)
key-between (Assignments m) (key.Assignment n t) (key.Assignment p u) h i o =
    let P : MeterId → Type 0 = λ x. is_le (ordering_then (nat_cmp n.0 x.0) (ordering_then (nat_cmp t u) Equal)) ≡ true in
    let a = squeezed m.0 n.0 _ _ h (subst P o i) in
    meters-one n m a.0
key-between TopUps (key.TopUp r) e h i o = tt
key-between Withdrawals (key.Withdrawal x) e h i o = tt
key-between Withdrawals (key.Reading n s t) e h i o = cc
key-between Withdrawals (key.Assignment n t) e h i o = cc
key-between Withdrawals (key.TopUp r) e h i o = cc
key-between (Readings m r) (key.Reading n s t) (key.Assignment p u) h i o = absurd o
key-between (Readings m r) (key.Reading n s t) (key.TopUp u) h i o = absurd o
key-between (Readings m r) (key.Assignment n t) (key.Reading p q u) h i o = cc
key-between (Readings m r) (key.Assignment n t) (key.Assignment p u) h i o = absurd o
key-between (Readings m r) (key.Assignment n t) (key.TopUp u) h i o = absurd o
key-between (Readings m r) (key.TopUp t) (key.Reading p q u) h i o = cc
key-between (Readings m r) (key.TopUp t) (key.Assignment p u) h i o = absurd o
key-between (Readings m r) (key.TopUp t) (key.TopUp u) h i o = absurd o
key-between (Assignments m) (key.Assignment n t) (key.Reading p q u) h i o = absurd o
key-between (Assignments m) (key.Assignment n t) (key.TopUp u) h i o = absurd o
key-between (Assignments m) (key.Reading n s t) e h i o = cc
key-between (Assignments m) (key.TopUp t) (key.Assignment p u) h i o = cc
key-between (Assignments m) (key.TopUp t) (key.Reading p q u) h i o = absurd o
key-between (Assignments m) (key.TopUp t) (key.TopUp u) h i o = absurd o
key-between TopUps (key.Reading n s t) e h i o = cc
key-between TopUps (key.Assignment n t) e h i o = cc
key-between (Readings m r) (key.Reading n s t) (key.Withdrawal x) h i o = absurd o
key-between (Readings m r) (key.Assignment n t) (key.Withdrawal x) h i o = absurd o
key-between (Readings m r) (key.TopUp t) (key.Withdrawal x) h i o = absurd o
key-between (Assignments m) (key.Assignment n t) (key.Withdrawal x) h i o = absurd o
key-between (Assignments m) (key.TopUp t) (key.Withdrawal x) h i o = absurd o
key-between (Readings m r) (key.Withdrawal x) (key.Reading p q u) h i o = cc
key-between (Readings m r) (key.Withdrawal x) (key.Assignment p u) h i o = absurd o
key-between (Readings m r) (key.Withdrawal x) (key.TopUp u) h i o = absurd o
key-between (Readings m r) (key.Withdrawal x) (key.Withdrawal y) h i o = absurd o
key-between (Assignments m) (key.Withdrawal x) (key.Assignment p u) h i o = cc
key-between (Assignments m) (key.Withdrawal x) (key.Reading p q u) h i o = absurd o
key-between (Assignments m) (key.Withdrawal x) (key.TopUp u) h i o = absurd o
key-between (Assignments m) (key.Withdrawal x) (key.Withdrawal y) h i o = absurd o
key-between TopUps (key.Withdrawal x) (key.TopUp u) h i o = cc
key-between TopUps (key.Withdrawal x) (key.Reading p q u) h i o = absurd o
key-between TopUps (key.Withdrawal x) (key.Assignment p u) h i o = absurd o
key-between TopUps (key.Withdrawal x) (key.Withdrawal y) h i o = absurd o

lowest-named : (k : Kind) → HasReference (lowest_key k)
lowest-named (Readings m r) = tt
lowest-named (Assignments m) = tt
lowest-named Withdrawals = tt
lowest-named TopUps = (lit≤ tt, lit≤ tt, All-cons (λ x. is_reference_byte x ≡ true) 45 [] refl (All-nil (λ x. is_reference_byte x ≡ true)))

-- ---- the records from the lowest of a kind on
module _ (k : Kind) where
  -- those of the kind are among them
  of-from : (e : Entry) → IsOfKind k e.key → IsNamed e.key → from (lowest_key k) e ≡ true
  of-from e o n =
      let d : key_order (lowest_key k) e.key ≡ listed_order (lowest_key k) e.key = keys-ordered (lowest_key k) e.key (lowest-named k) (reference e.key n) in
      let l : is_le (key_order (lowest_key k) e.key) ≡ true = ap is_le d ∙ lowest-le k e.key o n in
      and-both (is_le (order (lowest (lowest_key k)) e)) (then-both (key_order (lowest_key k) e.key) _ l (content-lowest e.content))

  entry-between : (f e : Entry) → IsNamed f.key → IsNamed e.key → from (lowest_key k) f ≡ true → order f e ≡ Less → IsOfKind k e.key → IsOfKind k f.key
  entry-between f e n m h l o =
      let a : is_le (key_order (lowest_key k) f.key) ≡ true = then-first (key_order (lowest_key k) f.key) _ (from-le (lowest_key k) f h) in
      let b : is_le (key_order f.key e.key) ≡ true = less-first (key_order f.key e.key) _ l in
      key-between k f.key e.key (ap is_le (sym (keys-ordered (lowest_key k) f.key (lowest-named k) (reference f.key n))) ∙ a) (ap is_le (sym (keys-ordered f.key e.key (reference f.key n) (reference e.key m))) ∙ b) o

  module _ (keys : List Entry) (named : AreNamed keys) (sorted : IsStrictlySortedBy order keys) (rows : List Entry) (is : rows ≡ filter (from (lowest_key k)) keys) where
    held : (e : Entry) → Member e rows → Member e keys × (from (lowest_key k) e ≡ true)
    held e m = let P : List Entry → Type 0 = Member e in member-kept (from (lowest_key k)) keys e (subst P is m)

    found : (e : Entry) → Member e keys → IsOfKind k e.key → Member e rows
    found e m o = let P : List Entry → Type 0 = Member e in subst P (sym is) (kept-member (from (lowest_key k)) keys e m (of-from e o (named e m)))

    pub rows-named : AreNamed rows
    rows-named e m = named e (held e m).0

    pub rows-sorted : IsStrictlySortedBy order rows
    rows-sorted = subst (IsStrictlySortedBy order) (sym is) (sorted-kept (from (lowest_key k)) keys sorted)

    -- all of them were seen
    pub listed-whole : (xs : List Entry) → ListsHeld (IsOfKind k) rows xs → ListsHeld (IsOfKind k) keys xs
    listed-whole xs h = record {
      rising = h.rising;
      members = λ x. (λ m. (let p = (h.members x).0 m in ((held x p.0).0, p.1)), λ p. (h.members x).1 (found x p.0 p.1, p.1));
    }

    -- from the first of another kind on there are no more
    pub listed-part : (seen others : List Entry) (e : Entry) (xs : List Entry) → rows ≡ seen ++ e ∷ others → (IsOfKind k e.key → ⊥) → ListsHeld (IsOfKind k) seen xs → ListsHeld (IsOfKind k) keys xs
    listed-part seen others e xs i n h =
        let P : List Entry → Type 0 = Member e in
        let in_rows : Member e rows = subst P (sym i) (member-mid seen others e) in record {
          rising = h.rising;
          members = λ x. (
            λ m. (let p = (h.members x).0 m in
                let Q : List Entry → Type 0 = Member x in
                ((held x (subst Q (sym i) (member-front x seen (e ∷ others) p.0))).0, p.1)),
            λ p. (let Q : List Entry → Type 0 = Member x in
                elim (member-in seen others e x (subst Q i (found x p.0 p.1))) [
                  | inl m ↦ (h.members x).1 (m, p.1)
                  | inr (inl j) ↦ (let R : Entry → Type 0 = λ v. IsOfKind k v.key in absurd (n (subst R j p.1)))
                  | inr (inr m) ↦ absurd (n (entry-between e x (rows-named e in_rows) (named x p.0) (held e in_rows).1 (after seen others e x (subst (IsStrictlySortedBy order) i rows-sorted) m) p.1))
                ]),
          );
        }
