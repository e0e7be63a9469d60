-- Records in order stand by their places.
use Rattle.std.proofs.Common.{◌≡◌, ℕ, ◌<◌, ◌≤◌, Bool, true, false, List, [], ◌∷◌, ◌++◌, length, get_or, take, drop, ◌↔◌, refl, sym, ap, subst, ◌∙◌, inl, inr, arith, Ordering, Less, Equal, Greater}
use Rattle.std.specs.Cmp.{nat_cmp_is}
use Rattle.std.specs.Ordering.{nat_cmp, ordering_then, ordering_reverse, is_eq, is_gt, is_lt}
use Rattle.std.specs.List.Sorted.{IsPartitionPoint, IsPartitionedBy}
use Rattle.std.proofs.lemmas.Bool.{cases_lt, true≢false}
use Rattle.std.proofs.lemmas.Cmp.{alike_right, tied_itself, upto}
use Rattle.std.proofs.lemmas.List.{take-append-drop}
use Rattle.pw_obis.specs.declared.reference.Register.{Register}
use Rattle.pw_obis.specs.contracts.reference.RegisterOrd.TheImpl as register
use Rattle.pw_tariff.specs.declared.ids.MeterId.{MeterId}
use Rattle.pw_model.specs.contracts.records.KeyOrd.TheImpl.Laws as key_laws
use Rattle.pw_model.specs.declared.records.Key.{Key}
use Rattle.pw_model.specs.declared.records.Key.TheVariants as key
use Rattle.pw_model.specs.declared.records.Entry.{Entry}
use Rattle.pw_model.specs.Kinds.{IsReading, IsAssignment, IsReadingOf, IsAssignmentOf, IsTopUp, ListsHeld}
use Rattle.pw_model.specs.Lists.{IsInOrder}
use Rattle.pw_model.specs.Same.{key_numbers, key_order, same_key, entry_order}
use Rattle.pw_model.specs.inner.Search.{IsAt}
use Rattle.pw_model.proofs.Alike.{keys-alike}
use Rattle.pw_model.proofs.EntryOrder.{before-all}
use Rattle.pw_model.proofs.InKeyOrder.{keys-ordered}
use Rattle.pw_model.proofs.InOrder.{before-member}
use Rattle.pw_model.proofs.Places.{KeyUpTo, at-member, member-at, at-some, at-up_to, taken-at, at-taken, dropped-at, at-dropped, rising-drop, member-left}
use Rattle.pw_model.proofs.Same.{same_key-decides}
use Rattle.pw_parts.specs.contracts.place.PlaceOrd.TheImpl.Laws as place_laws
use Rattle.pw_parts.specs.declared.place.Place.{Place}
use Rattle.pw_parts.specs.declared.place.Place.TheVariants as place
use Rattle.pw_parts.specs.inner.Places.{place_of, place_order, is_before, is_at}

-- ---- places in the order of keys
then-up_to : (o p q : Ordering) → ordering_then o (ordering_then p q) ≡ Less → is_gt (ordering_then o p) ≡ false
then-up_to Less p q h = refl
then-up_to Equal Less q h = refl
then-up_to Equal Equal q h = refl
then-up_to Equal Greater q h = absurd (let b : Greater ≡ Less = h in cc)
then-up_to Greater p q h = absurd (let b : Greater ≡ Less = h in cc)

up-to : (o q : Ordering) → ordering_then o q ≡ Less → is_gt o ≡ false
up-to Less q h = refl
up-to Equal q h = refl
up-to Greater q h = absurd (let b : Greater ≡ Less = h in cc)

keys-places : (k l : Key) → key_order k l ≡ Less → is_gt (place_order (place_of k) (place_of l)) ≡ false
unfolding key_numbers
keys-places (key.Reading m r t) (key.Reading n s u) h =
    then-up_to (nat_cmp m.0 n.0) (register.ghosts.cmp r s) (nat_cmp t u) (keys-ordered (key.Reading m r t) (key.Reading n s u) tt tt ∙ h)
keys-places (key.Reading m r t) (key.Assignment n u) h = refl
keys-places (key.Reading m r t) (key.TopUp s) h = refl
keys-places (key.Assignment m t) (key.Reading n s u) h = absurd (let b : Greater ≡ Less = h in cc)
keys-places (key.Assignment m t) (key.Assignment n u) h =
    up-to (nat_cmp m.0 n.0) (nat_cmp t u) (keys-ordered (key.Assignment m t) (key.Assignment n u) tt tt ∙ h)
keys-places (key.Assignment m t) (key.TopUp s) h = refl
keys-places (key.TopUp q) (key.Reading n s u) h = absurd (let b : Greater ≡ Less = h in cc)
keys-places (key.TopUp q) (key.Assignment n u) h = absurd (let b : Greater ≡ Less = h in cc)
keys-places (key.TopUp q) (key.TopUp s) h = refl
keys-places (key.Reading m r t) (key.Withdrawal y) h = refl
keys-places (key.Assignment m t) (key.Withdrawal y) h = refl
keys-places (key.TopUp q) (key.Withdrawal y) h = refl
keys-places (key.Withdrawal x) (key.Reading n s u) h = absurd (let b : Greater ≡ Less = h in cc)
keys-places (key.Withdrawal x) (key.Assignment n u) h = absurd (let b : Greater ≡ Less = h in cc)
keys-places (key.Withdrawal x) (key.TopUp s) h = absurd (let b : Greater ≡ Less = h in cc)
keys-places (key.Withdrawal x) (key.Withdrawal y) h = refl

keys-up_to : (k l : Key) → KeyUpTo k l → is_gt (place_order (place_of k) (place_of l)) ≡ false
keys-up_to k l (inl h) = keys-places k l h
keys-up_to k l (inr e) =
    let P : Key → Type 0 = λ v. is_gt (place_order (place_of k) (place_of v)) ≡ false in
    subst P e (ap is_gt (tied_itself place_laws.total-law (place_of k)))

-- where a place is up to one that is before another, it is before that other
before-back : (a b p : Place) → is_gt (place_order a b) ≡ false → is_lt (place_order b p) ≡ true → is_lt (place_order a p) ≡ true
before-back a b p g l = told (place_order a p) (upto place_laws.total-law a b p g (not-gt (place_order b p) l)) (λ e. (
    let same : place_order a b ≡ place_order p b = place_laws.total-law.congr a p b e in
    let back : place_order p b ≡ ordering_reverse (place_order b p) = place_laws.total-law.antisymm p b in
    true≢false (sym (turned (place_order b p) l) ∙ ap is_gt (sym back) ∙ ap is_gt (sym same) ∙ g)))
  where
    not-gt : (o : Ordering) → is_lt o ≡ true → is_gt o ≡ false
    not-gt Less h = refl
    not-gt Equal h = refl
    not-gt Greater h = absurd (true≢false (sym h))

    turned : (o : Ordering) → is_lt o ≡ true → is_gt (ordering_reverse o) ≡ true
    turned Less h = refl
    turned Equal h = absurd (true≢false (sym h))
    turned Greater h = absurd (true≢false (sym h))

    told : (o : Ordering) → is_gt o ≡ false → (o ≡ Equal → ⊥) → is_lt o ≡ true
    told Less g n = refl
    told Equal g n = absurd (n refl)
    told Greater g n = absurd (true≢false g)

-- one that isn't before it, and is up to one that stands there, stands there too
at-back : (a b p : Place) → is_gt (place_order a b) ≡ false → is_lt (place_order a p) ≡ false → is_eq (place_order b p) ≡ true → is_eq (place_order a p) ≡ true
at-back a b p g l e = told (place_order a p) l (ap is_gt (sym (alike_right place_laws.total-law b p a (equal (place_order b p) e))) ∙ g)
  where
    equal : (o : Ordering) → is_eq o ≡ true → o ≡ Equal
    equal Less h = absurd (true≢false (sym h))
    equal Equal h = refl
    equal Greater h = absurd (true≢false (sym h))

    told : (o : Ordering) → is_lt o ≡ false → is_gt o ≡ false → is_eq o ≡ true
    told Less l g = absurd (true≢false l)
    told Equal l g = refl
    told Greater l g = absurd (true≢false g)

-- ---- where a list is parted
places-up_to : (xs : List Entry) (i j : ℕ) (d : Entry) → IsInOrder entry_order xs → i ≤ j → j < length xs → is_gt (place_order (place_of (get_or xs i d).key) (place_of (get_or xs j d).key)) ≡ false
places-up_to xs i j d r a b =
    keys-up_to (get_or xs i d).key (get_or xs j d).key (at-up_to xs i j (get_or xs i d) (get_or xs j d) r (at-some xs i d (omega (arith, a, b))) (at-some xs j d b) a)

pub before-parts : (p : Place) (xs : List Entry) → IsInOrder entry_order xs → IsPartitionedBy (λ (e : Entry). is_before p e.key) xs
before-parts p xs r i j d a b h = before-back (place_of (get_or xs i d).key) (place_of (get_or xs j d).key) p (places-up_to xs i j d r a b) h

pub at-parts : (p : Place) (xs ys : List Entry) → ListsHeld (λ k. is_before p k ≡ false) xs ys → IsPartitionedBy (λ (e : Entry). is_at p e.key) ys
at-parts p xs ys l i j d a b h =
    let behind = ((l.members (get_or ys i d)).0 (at-member ys i (get_or ys i d) (at-some ys i d (omega (arith, a, b))))).1 in
    at-back (place_of (get_or ys i d).key) (place_of (get_or ys j d).key) p (places-up_to ys i j d l.rising a b) behind h

rising-left : {X : Type 0} (order : X → X → Ordering) (xs ys : List X) → IsInOrder order (xs ++ ys) → IsInOrder order xs
rising-left order [] ys h = tt
rising-left order (x ∷ xs) ys h = (before-all order x xs (λ z m. before-member order x z (xs ++ ys) h.0 (member-left z xs ys m)), rising-left order xs ys h.1)

rising-take : (n : ℕ) (xs : List Entry) → IsInOrder entry_order xs → IsInOrder entry_order (take n xs)
rising-take n xs r = rising-left entry_order (take n xs) (drop n xs) (let P : List Entry → Type 0 = IsInOrder entry_order in subst P (sym (take-append-drop n xs)) r)

-- by a test of keys
abbrev pub IsParted : (Key → Bool) → List Entry → ℕ → Type 0
IsParted p xs n = IsPartitionPoint (λ (e : Entry). p e.key ≡ true) (λ (e : Entry). p e.key ≡ false) xs n

read : (xs : List Entry) (P : Entry → Type 0) (j : ℕ) (x : Entry) → IsAt xs j x → P (get_or xs j x) → P x
read xs P j x a h = subst P a.1 h

pub parted-front : (p : Key → Bool) (n : ℕ) (xs : List Entry) → IsInOrder entry_order xs → IsParted p xs n → ListsHeld (λ k. p k ≡ true) xs (take n xs)
parted-front p n xs r h = record {
  rising = rising-take n xs r;
  members = λ x. (
    λ m.
        let t = taken-at xs n x m in
        (at-member xs t.0 x t.2, read xs (λ (e : Entry). p e.key ≡ true) t.0 x t.2 (h.0 t.0 x (omega arith) t.1)),
    λ m.
        let t = member-at xs x m.0 in
        elim (cases_lt t.0 n) [
          | inl l ↦ at-taken xs n t.0 x l t.1
          | inr l ↦ absurd (true≢false (sym m.1 ∙ read xs (λ (e : Entry). p e.key ≡ false) t.0 x t.1 (h.1 t.0 x l t.1.0)))
        ],
  );
}

pub parted-behind : (p : Key → Bool) (n : ℕ) (xs : List Entry) → IsInOrder entry_order xs → IsParted p xs n → ListsHeld (λ k. p k ≡ false) xs (drop n xs)
parted-behind p n xs r h = record {
  rising = rising-drop entry_order xs n r;
  members = λ x. (
    λ m.
        let t = dropped-at xs n x m in
        (at-member xs t.0 x t.2, read xs (λ (e : Entry). p e.key ≡ false) t.0 x t.2 (h.1 t.0 x t.1 t.2.0)),
    λ m.
        let t = member-at xs x m.0 in
        elim (cases_lt t.0 n) [
          | inr l ↦ at-dropped xs n t.0 x l t.1
          | inl l ↦ absurd (true≢false (sym (read xs (λ (e : Entry). p e.key ≡ true) t.0 x t.1 (h.0 t.0 x (omega arith) l)) ∙ m.1))
        ],
  );
}

-- ---- records of records
pub held-both : (Of And Is : Key → Type 0) (xs ys zs : List Entry) → ListsHeld Of xs ys → ListsHeld And ys zs → ((k : Key) → Is k ↔ (Of k × And k)) → ListsHeld Is xs zs
held-both Of And Is xs ys zs f g h = record {
  rising = g.rising;
  members = λ x. (
    λ m. (let b = (g.members x).0 m in let a = (f.members x).0 b.0 in (a.0, (h x.key).1 (a.1, b.1))),
    λ m. (let w = (h x.key).0 m.1 in (g.members x).1 ((f.members x).1 (m.0, w.0), w.1)),
  );
}

-- what stands there isn't before it
at-behind : (o : Ordering) → is_eq o ≡ true → is_lt o ≡ false
at-behind Less h = absurd (true≢false (sym h))
at-behind Equal h = refl
at-behind Greater h = refl

pub held-within : (p : Place) (xs ys zs : List Entry) → ListsHeld (λ k. is_before p k ≡ false) xs ys → ListsHeld (λ k. is_at p k ≡ true) ys zs → ListsHeld (λ k. is_at p k ≡ true) xs zs
held-within p xs ys zs f g =
    held-both (λ k. is_before p k ≡ false) (λ k. is_at p k ≡ true) (λ k. is_at p k ≡ true) xs ys zs f g (λ k. ((λ h. (at-behind (place_order (place_of k) p) h, h)), (λ h. h.1)))

pub held-as : (Of Is : Key → Type 0) (xs ys : List Entry) → ListsHeld Of xs ys → ((k : Key) → Is k ↔ Of k) → ListsHeld Is xs ys
held-as Of Is xs ys f h = record {
  rising = f.rising;
  members = λ x. (
    λ m. (let a = (f.members x).0 m in (a.0, (h x.key).1 a.1)),
    λ m. (f.members x).1 (m.0, (h x.key).0 m.1),
  );
}

-- ---- which keys stand where
first-meter : (n : ℕ) → is_lt (nat_cmp n 0) ≡ false
first-meter n = elim (cases_lt 0 n) [
  | inl l ↦ ap is_lt (sym (nat_cmp_is n 0 Greater l))
  | inr l ↦ (let e : n ≡ 0 = omega (arith, l) in ap is_lt (sym (nat_cmp_is n 0 Equal e)))
]

abbrev pub first : Place
first = place.Assignments (record { 0 = 0 })

pub readings-first : (k : Key) → IsReading k ↔ (is_before first k ≡ true)
readings-first (key.Reading m r t) = (λ o. refl, λ h. tt)
readings-first (key.Assignment m t) = (λ o. absurd o, λ h. absurd (true≢false (sym h ∙ first-meter m.0)))
readings-first (key.TopUp q) = (λ o. absurd o, λ h. absurd (true≢false (sym h)))
readings-first (key.Withdrawal x) = (λ o. absurd o, λ h. absurd (true≢false (sym h)))

pub assignments-next : (k : Key) → IsAssignment k ↔ ((is_before first k ≡ false) × (is_before place.TopUps k ≡ true))
assignments-next (key.Reading m r t) = (λ o. absurd o, λ h. absurd (true≢false h.0))
assignments-next (key.Assignment m t) = (λ o. (first-meter m.0, refl), λ h. tt)
assignments-next (key.TopUp q) = (λ o. absurd o, λ h. absurd (true≢false (sym h.1)))
assignments-next (key.Withdrawal x) = (λ o. absurd o, λ h. absurd (true≢false (sym h.1)))

then-equal : (o : Ordering) → ordering_then o Equal ≡ o
then-equal Less = refl
then-equal Equal = refl
then-equal Greater = refl

-- two places of registers, or of meters, are one where these keys are
abbrev reading_from : MeterId → Register → Key
reading_from m r = key.Reading m r 0

abbrev assignment_from : MeterId → Key
assignment_from m = key.Assignment m 0

registers-tested : (m n : MeterId) (r s : Register) → is_eq (place_order (place.Readings n s) (place.Readings m r)) ≡ same_key (reading_from n s) (reading_from m r)
registers-tested m n r s =
    ap (λ o. is_eq (ordering_then (nat_cmp n.0 m.0) o)) (sym (then-equal (register.ghosts.cmp s r)))
    ∙ sym (key_laws.matches_eq-law (reading_from n s) (reading_from m r))
    ∙ keys-alike (reading_from n s) (reading_from m r)

meters-tested : (m n : MeterId) → is_eq (place_order (place.Assignments n) (place.Assignments m)) ≡ same_key (assignment_from n) (assignment_from m)
meters-tested m n =
    ap is_eq (sym (then-equal (nat_cmp n.0 m.0)))
    ∙ sym (key_laws.matches_eq-law (assignment_from n) (assignment_from m))
    ∙ keys-alike (assignment_from n) (assignment_from m)

pub register-there : (m : MeterId) (r : Register) (k : Key) → IsReadingOf m r k ↔ (is_at (place.Readings m r) k ≡ true)
register-there m r (key.Reading n s t) = (
  λ o. registers-tested m n r s ∙ (same_key-decides (reading_from n s) (reading_from m r)).1 (λ i. reading_from (o.0 i) (o.1 i)),
  λ h.
      let e : reading_from n s ≡ reading_from m r = (same_key-decides (reading_from n s) (reading_from m r)).0 (sym (registers-tested m n r s) ∙ h) in
      let p : n ≡ m = cc in
      let q : s ≡ r = cc in
      (p, q),
)
register-there m r (key.Assignment n t) = (λ o. absurd o, λ h. absurd (true≢false (sym h)))
register-there m r (key.TopUp q) = (λ o. absurd o, λ h. absurd (true≢false (sym h)))
register-there m r (key.Withdrawal x) = (λ o. absurd o, λ h. absurd (true≢false (sym h)))

pub meter-there : (m : MeterId) (k : Key) → IsAssignmentOf m k ↔ (is_at (place.Assignments m) k ≡ true)
meter-there m (key.Reading n s t) = (λ o. absurd o, λ h. absurd (true≢false (sym h)))
meter-there m (key.Assignment n t) = (
  λ o. meters-tested m n ∙ (same_key-decides (assignment_from n) (assignment_from m)).1 (ap assignment_from o),
  λ h.
      let e : assignment_from n ≡ assignment_from m = (same_key-decides (assignment_from n) (assignment_from m)).0 (sym (meters-tested m n) ∙ h) in
      let p : n ≡ m = cc in
      p,
)
meter-there m (key.TopUp q) = (λ o. absurd o, λ h. absurd (true≢false (sym h)))
meter-there m (key.Withdrawal x) = (λ o. absurd o, λ h. absurd (true≢false (sym h)))

pub top-ups-there : (k : Key) → IsTopUp k ↔ (is_at place.TopUps k ≡ true)
top-ups-there (key.Reading m r t) = (λ o. absurd o, λ h. absurd (true≢false (sym h)))
top-ups-there (key.Assignment m t) = (λ o. absurd o, λ h. absurd (true≢false (sym h)))
top-ups-there (key.TopUp q) = (λ o. refl, λ h. tt)
top-ups-there (key.Withdrawal x) = (λ o. absurd o, λ h. absurd (true≢false (sym h)))
