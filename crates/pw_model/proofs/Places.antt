-- What stands at which place of a list, and of a list in order.
use Rattle.std.proofs.Common.{◌≡◌, ◌⊎◌, ◌↔◌, ℕ, zero, suc, ◌+◌, ◌<◌, ◌≤◌, Bool, true, false, not, IsTrue, List, [], ◌∷◌, ◌++◌, length, get_or, take, drop, refl, ap, sym, subst, ◌∙◌, inl, inr, arith}
use Rattle.std.proofs.lemmas.Bool.{cases_lt, true≢false}
use Rattle.std.proofs.lemmas.List.{get_or_default, take_more, drop_more}
use Rattle.std.proofs.lemmas.List.Sorted.{Contains-permutation, IsPermutation-sym}
use Rattle.std.specs.List.{Contains}
use Rattle.std.specs.List.Sorted.{IsPermutation}
use Rattle.std.specs.Ordering.{ordering_then}
use Rattle.std.specs.declared.cmp.Ordering.{Ordering}
use Rattle.std.specs.declared.cmp.Ordering.TheVariants.{Less, Equal, Greater}
use Rattle.pw_model.specs.declared.records.Key.{Key}
use Rattle.pw_model.specs.declared.records.Entry.{Entry}
use Rattle.pw_model.specs.Same.{key_numbers, key_order, entry_order, same_key}
use Rattle.pw_model.specs.Counting.{Member, SameMembers, IsNoWithdrawal, Counts, IsInserted}
use Rattle.pw_model.specs.Lists.{IsInOrder}
use Rattle.pw_model.specs.inner.Search.{AllStand, IsAt, IsKeyBehind}
use Rattle.pw_model.proofs.Same.{same_key-decides}
use Rattle.pw_model.proofs.InOrder.{IsStrict, by-numbers, before-member}
use Rattle.pw_model.proofs.Counting.{standing-part, all-stand}
use Rattle.pw_model.proofs.EntryOrder.{keys-tie, entry-strict}

-- ---- places
pub at-member : {X : Type 0} (xs : List X) (i : ℕ) (x : X) → IsAt xs i x → Member x xs
at-member [] i x h = absurd (let l = h.0 in omega (arith, l))
at-member (y ∷ ys) zero x h = inl (sym h.1)
at-member (y ∷ ys) (suc i) x h = inr (at-member ys i x (let l = h.0 in omega (arith, l), h.1))

pub member-at : {X : Type 0} (xs : List X) (x : X) → Member x xs → (i : ℕ) × IsAt xs i x
member-at [] x m = absurd m
member-at (y ∷ ys) x (inl e) = (zero, (omega arith, sym e))
member-at {X} (y ∷ ys) x (inr m) =
    let r : (i : ℕ) × IsAt ys i x = member-at ys x m in
    (suc r.0, (let l = r.1.0 in omega (arith, l), r.1.1))

pub permuted : {X : Type 0} (xs ys : List X) → IsPermutation xs ys → SameMembers xs ys
permuted xs ys p = λ x. (
  λ m. (let a = member-at xs x m in let c : Contains ys x = Contains-permutation xs ys x p (a.0, a.1.0, a.1.1) in at-member ys c.0 x (c.1, c.2)),
  λ m. (let a = member-at ys x m in let c : Contains xs x = Contains-permutation ys xs x (IsPermutation-sym xs ys p) (a.0, a.1.0, a.1.1) in at-member xs c.0 x (c.1, c.2)),
)

-- as loops tell it
pub at-told : {X : Type 0} (xs : List X) (i : ℕ) (x : X) → i < length xs → x ≡ get_or xs i x → IsAt xs i x
at-told xs i x l e = (l, sym e)

pub at-some : {X : Type 0} (xs : List X) (i : ℕ) (d : X) → i < length xs → IsAt xs i (get_or xs i d)
at-some xs i d l = (l, get_or_default xs i (get_or xs i d) d l)

pub at-one : {X : Type 0} (xs : List X) (i : ℕ) (x y : X) → IsAt xs i x → IsAt xs i y → x ≡ y
at-one xs i x y a b = sym a.1 ∙ get_or_default xs i x y a.0 ∙ b.1

pub take-at : {X : Type 0} (xs : List X) (i : ℕ) (x : X) → IsAt xs i x → take (i + 1) xs ≡ take i xs ++ x ∷ []
take-at {X} xs i x a = take_more xs i x a.0 ∙ ap (λ (y : X). take i xs ++ y ∷ []) a.1

pub drop-at : {X : Type 0} (xs : List X) (i : ℕ) (x : X) → IsAt xs i x → drop i xs ≡ x ∷ drop (i + 1) xs
drop-at {X} xs i x a = drop_more xs i x a.0 ∙ ap (λ (y : X). y ∷ drop (i + 1) xs) a.1

-- members of a list with one more at its end
pub push-to : {X : Type 0} (xs : List X) (x z : X) → Member z (xs ++ x ∷ []) → Member z xs ⊎ (z ≡ x)
push-to [] x z (inl e) = inr e
push-to [] x z (inr m) = absurd m
push-to (y ∷ ys) x z (inl e) = inl (inl e)
push-to (y ∷ ys) x z (inr m) = elim (push-to ys x z m) [ inl k ↦ inl (inr k) | inr e ↦ inr e ]

pub taken-to : {X : Type 0} (xs : List X) (i : ℕ) (x z : X) → IsAt xs i x → Member z (take (i + 1) xs) → Member z (take i xs) ⊎ (z ≡ x)
taken-to {X} xs i x z a m =
    let P : List X → Type 0 = λ l. Member z l in
    push-to (take i xs) x z (subst P (take-at xs i x a) m)

pub take-all : {X : Type 0} (xs : List X) (i : ℕ) → length xs ≤ i → take i xs ≡ xs
take-all [] zero l = refl
take-all [] (suc i) l = refl
take-all (x ∷ xs) zero l = absurd (omega arith)
take-all (x ∷ xs) (suc i) l = ap (λ r. x ∷ r) (take-all xs i (omega arith))

append-none : {X : Type 0} (xs : List X) → xs ≡ xs ++ []
append-none [] = refl
append-none (x ∷ xs) = ap (λ r. x ∷ r) (append-none xs)

-- the records up to a place, and the one there
pub taken-inserted : {X : Type 0} (xs : List X) (i : ℕ) (x : X) → IsAt xs i x → IsInserted x (take i xs) (take (i + 1) xs)
taken-inserted xs i x a = (take i xs, [], append-none (take i xs), take-at xs i x a)

pub taken-whole : {X : Type 0} (xs : List X) (i : ℕ) (z : X) → length xs ≤ i → Member z xs → Member z (take i xs)
taken-whole [] i z l m = absurd m
taken-whole (x ∷ xs) zero z l m = absurd (omega arith)
taken-whole (x ∷ xs) (suc i) z l (inl e) = inl e
taken-whole (x ∷ xs) (suc i) z l (inr m) = inr (taken-whole xs i z (omega arith) m)

-- what holds of each up to a place, and of the one there
pub taken-each : {X : Type 0} (P : X → Type 0) (xs : List X) (i : ℕ) (x : X) → IsAt xs i x → ((z : X) → Member z (take i xs) → P z) → P x → (z : X) → Member z (take (i + 1) xs) → P z
taken-each {X} P xs i x a h p z m = elim (taken-to xs i x z a m) [ inl o ↦ h z o | inr e ↦ subst P (sym e) p ]

pub at-there : {X : Type 0} (xs : List X) (i : ℕ) → i < length xs → (x : X) × IsAt xs i x
at-there [] i l = absurd (omega arith)
at-there (x ∷ xs) zero l = (x, (l, refl))
at-there {X} (x ∷ xs) (suc i) l = let r : (y : X) × IsAt xs i y = at-there xs i (omega arith) in (r.0, (l, r.1.1))

-- what stands from a place on
pub drop-all : {X : Type 0} (xs : List X) (i : ℕ) → length xs ≤ i → drop i xs ≡ []
drop-all [] zero l = refl
drop-all [] (suc i) l = refl
drop-all (x ∷ xs) zero l = absurd (omega arith)
drop-all (x ∷ xs) (suc i) l = drop-all xs i (omega arith)

pub dropped-at : {X : Type 0} (xs : List X) (i : ℕ) (x : X) → Member x (drop i xs) → (j : ℕ) × (i ≤ j) × IsAt xs j x
dropped-at xs zero x m = let r = member-at xs x m in (r.0, omega arith, r.1)
dropped-at [] (suc i) x m = absurd m
dropped-at {X} (y ∷ ys) (suc i) x m =
    let r : (j : ℕ) × (i ≤ j) × IsAt ys j x = dropped-at ys i x m in
    (suc r.0, (let l = r.1 in omega (arith, l)), (let l = r.2.0 in omega (arith, l), r.2.1))

pub at-dropped : {X : Type 0} (xs : List X) (i j : ℕ) (x : X) → i ≤ j → IsAt xs j x → Member x (drop i xs)
at-dropped [] i j x l a = absurd (let k = a.0 in omega (arith, k))
at-dropped (y ∷ ys) zero j x l a = at-member (y ∷ ys) j x a
at-dropped (y ∷ ys) (suc i) zero x l a = absurd (omega arith)
at-dropped (y ∷ ys) (suc i) (suc j) x l a = at-dropped ys i j x (omega arith) (let k = a.0 in omega (arith, k), a.1)

-- and what stands up to it
pub taken-at : {X : Type 0} (xs : List X) (i : ℕ) (x : X) → Member x (take i xs) → (j : ℕ) × (j < i) × IsAt xs j x
taken-at xs zero x m = absurd m
taken-at [] (suc i) x m = absurd m
taken-at (y ∷ ys) (suc i) x (inl e) = (zero, omega arith, (omega arith, sym e))
taken-at {X} (y ∷ ys) (suc i) x (inr m) =
    let r : (j : ℕ) × (j < i) × IsAt ys j x = taken-at ys i x m in
    (suc r.0, (let l = r.1 in omega (arith, l)), (let l = r.2.0 in omega (arith, l), r.2.1))

pub at-taken : {X : Type 0} (xs : List X) (i j : ℕ) (x : X) → j < i → IsAt xs j x → Member x (take i xs)
at-taken [] i j x l a = absurd (let k = a.0 in omega (arith, k))
at-taken (y ∷ ys) zero j x l a = absurd (omega arith)
at-taken (y ∷ ys) (suc i) zero x l a = inl (sym a.1)
at-taken (y ∷ ys) (suc i) (suc j) x l a = inr (at-taken ys i j x (omega arith) (let k = a.0 in omega (arith, k), a.1))

pub member-left : {X : Type 0} (x : X) (xs ys : List X) → Member x xs → Member x (xs ++ ys)
member-left x [] ys m = absurd m
member-left x (z ∷ xs) ys (inl e) = inl e
member-left x (z ∷ xs) ys (inr m) = inr (member-left x xs ys m)

pub member-right : {X : Type 0} (x : X) (xs ys : List X) → Member x ys → Member x (xs ++ ys)
member-right x [] ys m = m
member-right x (z ∷ xs) ys m = inr (member-right x xs ys m)

pub member-split : {X : Type 0} (x : X) (xs ys : List X) → Member x (xs ++ ys) → Member x xs ⊎ Member x ys
member-split x [] ys m = inr m
member-split x (z ∷ xs) ys (inl e) = inl (inl e)
member-split x (z ∷ xs) ys (inr m) = elim (member-split x xs ys m) [ inl a ↦ inl (inr a) | inr b ↦ inr b ]

-- the members of a list are those from a place on, and those up to it
pub parts-same : {X : Type 0} (xs : List X) (i : ℕ) → SameMembers xs (drop i xs ++ take i xs)
parts-same xs i x = (
  λ m.
      let r = member-at xs x m in
      elim (cases_lt r.0 i) [
        | inl l ↦ member-right x (drop i xs) (take i xs) (at-taken xs i r.0 x l r.1)
        | inr l ↦ member-left x (drop i xs) (take i xs) (at-dropped xs i r.0 x l r.1)
      ],
  λ m. elim (member-split x (drop i xs) (take i xs) m) [
    | inl a ↦ (let r = dropped-at xs i x a in at-member xs r.0 x r.2)
    | inr b ↦ (let r = taken-at xs i x b in at-member xs r.0 x r.2)
  ],
)

-- ---- a list in order
pub rising-at : {X : Type 0} (order : X → X → Ordering) (xs : List X) (i j : ℕ) (x y : X) → IsInOrder order xs → IsAt xs i x → IsAt xs j y → i < j → order x y ≡ Less
rising-at order [] i j x y r a b l = absurd (let k = a.0 in omega (arith, k))
rising-at order (z ∷ zs) i zero x y r a b l = absurd (omega arith)
rising-at {X} order (z ∷ zs) zero (suc j) x y r a b l =
    let P : X → Type 0 = λ v. order v y ≡ Less in
    subst P a.1 (before-member order z y zs r.0 (at-member zs j y (let k = b.0 in omega (arith, k), b.1)))
rising-at order (z ∷ zs) (suc i) (suc j) x y r a b l =
    rising-at order zs i j x y r.1 (let k = a.0 in omega (arith, k), a.1) (let k = b.0 in omega (arith, k), b.1) (omega arith)

pub rising-drop : {X : Type 0} (order : X → X → Ordering) (xs : List X) (i : ℕ) → IsInOrder order xs → IsInOrder order (drop i xs)
rising-drop order xs zero r = r
rising-drop order [] (suc i) r = r
rising-drop order (x ∷ xs) (suc i) r = rising-drop order xs i r.1

-- ---- the keys of records in order
pub key-strict : IsStrict key_order
key-strict = by-numbers key_numbers

-- a key stands before another, or is it
abbrev pub KeyUpTo : Key → Key → Type 0
KeyUpTo k l = (key_order k l ≡ Less) ⊎ (k ≡ l)

up-to-then : (k l : Key) (o p : Ordering) → key_order k l ≡ o → ordering_then o p ≡ Less → KeyUpTo k l
up-to-then k l Less p e h = inl e
up-to-then k l Equal p e h = inr (keys-tie k l e)
up-to-then k l Greater p e h = cc

pub entry-up_to : (e f : Entry) → entry_order e f ≡ Less → KeyUpTo e.key f.key
entry-up_to e f h = up-to-then e.key f.key (key_order e.key f.key) _ refl h

pub up-to-one : (k l : Key) → KeyUpTo k l → KeyUpTo l k → k ≡ l
up-to-one k l (inr a) b = a
up-to-one k l (inl a) (inr b) = sym b
up-to-one k l (inl a) (inl b) = absurd (key-strict.apart k (key-strict.trans k l k a b))

pub at-up_to : (s : List Entry) (i j : ℕ) (e f : Entry) → IsInOrder entry_order s → IsAt s i e → IsAt s j f → i ≤ j → KeyUpTo e.key f.key
at-up_to s i j e f r a b l =
    elim (cases_lt i j) [
      | inl k ↦ entry-up_to e f (rising-at entry_order s i j e f r a b k)
      | inr k ↦ (
          let q : j ≡ i = omega arith in
          let P : ℕ → Type 0 = λ n. IsAt s n f in
          inr (ap (λ (x : Entry). x.key) (at-one s i e f a (subst P q b))))
    ]

-- what stands between two records of one key has it too
pub same-between : (s : List Entry) (i j l : ℕ) (e f g : Entry) → IsInOrder entry_order s → IsAt s i e → IsAt s j f → IsAt s l g → i ≤ j → j ≤ l → e.key ≡ g.key → f.key ≡ e.key
same-between s i j l e f g r a b c h k q =
    let P : Key → Type 0 = λ v. KeyUpTo f.key v in
    up-to-one f.key e.key (subst P (sym q) (at-up_to s j l f g r b c k)) (at-up_to s i j e f r a b h)

-- ---- whether a record has its key behind it
pub behind-told : (s : List Entry) (i : ℕ) (e f : Entry) (b : Bool) → i < length s → i + 1 < length s → e ≡ get_or s i e → f ≡ get_or s (i + 1) f →
    b ≡ same_key (get_or s i e).key (get_or s (i + 1) f).key → IsTrue b ↔ IsKeyBehind s i
behind-told s i e f b l k p q g =
    let h : b ≡ same_key e.key f.key = g ∙ ap (λ (v : Entry). same_key v.key (get_or s (i + 1) f).key) (sym p) ∙ ap (λ (v : Entry). same_key e.key v.key) (sym q) in (
      λ t. (e, f, at-told s i e l p, at-told s (i + 1) f k q, (same_key-decides e.key f.key).0 (sym h ∙ t)),
      λ x.
          let one : x.0 ≡ e = at-one s i x.0 e x.2 (at-told s i e l p) in
          let two : x.1 ≡ f = at-one s (i + 1) x.1 f x.3 (at-told s (i + 1) f k q) in
          h ∙ (same_key-decides e.key f.key).1 (ap (λ (v : Entry). v.key) (sym one) ∙ x.4 ∙ ap (λ (v : Entry). v.key) two),
    )

-- no record stands at two places in order
pub entry-apart : (s : List Entry) (i j : ℕ) (e : Entry) → IsInOrder entry_order s → IsAt s i e → IsAt s j e → i < j → ⊥
entry-apart s i j e r a b l = entry-strict.apart e (rising-at entry_order s i j e e r a b l)

places-apart : (s : List Entry) (i : ℕ) (e f : Entry) → IsInOrder entry_order s → IsAt s i e → IsAt s (i + 1) f → e ≡ f → ⊥
places-apart s i e f r a b q =
    let P : Entry → Type 0 = λ v. IsAt s (i + 1) v in
    entry-apart s i (i + 1) e r a (subst P (sym q) b) (omega arith)

-- a record counts where its key is neither behind it nor before it
pub key-behind : (s : List Entry) (i j : ℕ) (e f : Entry) → IsInOrder entry_order s → IsAt s i e → IsAt s j f → i < j → f.key ≡ e.key → IsKeyBehind s i
key-behind s i j e f r a b l q =
    let m : i + 1 < length s = let k = b.0 in cases-next k in
    (e, get_or s (i + 1) e, a, at-some s (i + 1) e m, sym (same-between s i (i + 1) j e (get_or s (i + 1) e) f r a (at-some s (i + 1) e m) b (omega arith) (omega arith) (sym q)))
  where
    cases-next : j < length s → i + 1 < length s
    cases-next k = omega arith

key-before : (s : List Entry) (p i j : ℕ) (e f : Entry) → IsInOrder entry_order s → p + 1 ≡ i → IsAt s i e → IsAt s j f → j < i → f.key ≡ e.key → IsKeyBehind s p
key-before s p i j e f r n a b l q =
    let m : p < length s = let k = a.0 in omega (arith, k) in
    let P : ℕ → Type 0 = λ v. IsAt s v e in
    let there : IsAt s p (get_or s p e) = at-some s p e m in
    (get_or s p e, e, there, subst P (sym n) a, same-between s j p i f (get_or s p e) e r b there a (omega arith) (omega arith) q ∙ q)

pub alone-counts : (s : List Entry) (i : ℕ) (e : Entry) → IsInOrder entry_order s → AllStand s → IsAt s i e → ((p : ℕ) → p + 1 ≡ i → IsKeyBehind s p → ⊥) → (IsKeyBehind s i → ⊥) → IsNoWithdrawal e.content → Counts s e
alone-counts s i e r all a before behind no_withdrawal = (
  all-stand s e all (at-member s i e a),
  λ f m q.
      let w : (j : ℕ) × IsAt s j f = member-at s f (standing-part s f m) in
      elim (cases_lt w.0 i) [
        | inl l ↦ (let p : (v : ℕ) × (v + 1 ≡ i) = pred-of i w.0 l in absurd (before p.0 p.1 (key-before s p.0 i w.0 e f r p.1 a w.1 l q)))
        | inr l ↦ elim (cases_lt i w.0) [
          | inl g ↦ absurd (behind (key-behind s i w.0 e f r a w.1 g q))
          | inr g ↦ (
              let same : w.0 ≡ i = omega arith in
              let P : ℕ → Type 0 = λ n. IsAt s n f in
              at-one s i f e (subst P same w.1) a)
        ]
      ],
  no_withdrawal,
)
  where
    pred-of : (n k : ℕ) → k < n → (v : ℕ) × (v + 1 ≡ n)
    pred-of zero k l = absurd (omega arith)
    pred-of (suc n) k l = (n, omega arith)

pub counts-alone : (s : List Entry) (i : ℕ) (e : Entry) → IsInOrder entry_order s → AllStand s → IsAt s i e → Counts s e → IsKeyBehind s i → ⊥
counts-alone s i e r all a c b =
    let one : b.0 ≡ e = at-one s i b.0 e b.2 a in
    let two : b.1 ≡ e = c.1 b.1 (all-stand s b.1 all (at-member s (i + 1) b.1 b.3)) (sym b.4 ∙ ap (λ (v : Entry). v.key) one) in
    places-apart s i b.0 b.1 r b.2 b.3 (one ∙ sym two)

pub counts-first : (s : List Entry) (p i : ℕ) (e : Entry) → IsInOrder entry_order s → AllStand s → p + 1 ≡ i → IsAt s i e → Counts s e → IsKeyBehind s p → ⊥
counts-first s p i e r all n a c b =
    let P : ℕ → Type 0 = λ v. IsAt s v b.1 in
    let two : b.1 ≡ e = at-one s i b.1 e (subst P n b.3) a in
    let one : b.0 ≡ e = c.1 b.0 (all-stand s b.0 all (at-member s p b.0 b.2)) (b.4 ∙ ap (λ (v : Entry). v.key) two) in
    places-apart s p b.0 b.1 r b.2 b.3 (one ∙ sym two)

-- the test that answers by them
pub alone-told : (s : List Entry) (i : ℕ) (b : Bool) → IsInOrder entry_order s → AllStand s → ((p : ℕ) → p + 1 ≡ i → IsKeyBehind s p → ⊥) → IsTrue b ↔ IsKeyBehind s i →
    (e : Entry) → IsAt s i e → IsNoWithdrawal e.content → IsTrue (not b) ↔ Counts s e
alone-told s i true r all before h e a w = (λ t. absurd (true≢false (sym t)), λ c. absurd (counts-alone s i e r all a c (h.0 refl)))
alone-told s i false r all before h e a w = (λ t. alone-counts s i e r all a before (λ k. true≢false (sym (h.1 k))) w, λ c. refl)

pub not-alone : (s : List Entry) (p i : ℕ) → IsInOrder entry_order s → AllStand s → p + 1 ≡ i → IsKeyBehind s p → (e : Entry) → IsAt s i e → IsNoWithdrawal e.content → IsTrue false ↔ Counts s e
not-alone s p i r all n k e a w = (λ t. absurd (true≢false (sym t)), λ c. absurd (counts-first s p i e r all n a c k))
