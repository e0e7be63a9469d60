-- The order of entries is total, and two that tie are one.
use Rattle.std.proofs.Common.{◌≡◌, ◌⊎◌, Result, Ok, Err, IfOk, ℕ, List, [], ◌∷◌, ap, sym, ◌∙◌, subst, inl, inr}
use Rattle.std.proofs.lemmas.Cmp.{nat_list_cmp_total, on_total, then_total, tied_itself}
use Rattle.std.specs.Cmp.{IsTotalOrder, unsigned_ties}
use Rattle.std.specs.Cmp.Lexicographic.{slice_cmp, lists_ties, bytes_decides}
use Rattle.std.specs.Ordering.{nat_cmp, ordering_then, ordering_reverse, is_eq}
use Rattle.std.specs.declared.cmp.Ordering.{Ordering}
use Rattle.std.specs.declared.cmp.Ordering.TheVariants.{Less, Equal, Greater}
use Rattle.pw_model.specs.declared.records.Key.{Key}
use Rattle.pw_model.specs.declared.records.Content.{Content}
use Rattle.pw_model.specs.declared.records.Entry.{Entry}
use Rattle.pw_model.specs.Same.{key_numbers, content_numbers, key_order, entry_order}
use Rattle.pw_model.specs.Counting.{Member}
use Rattle.pw_model.specs.Lists.{IsBeforeAll, Lists}
use Rattle.pw_model.specs.inner.Search.{IsWith, AreSorted}
use Rattle.pw_model.proofs.Same.{key-numbers-one, content-numbers-one}
use Rattle.pw_model.proofs.InOrder.{IsStrict, before-member}

-- lists of numbers that tie are one
pub numbers-tie : (xs ys : List ℕ) → slice_cmp nat_cmp xs ys ≡ Equal → xs ≡ ys
numbers-tie xs ys e = (bytes_decides xs ys).0 (lists_ties nat_cmp unsigned_ties xs ys ∙ ap is_eq e)

pub entry-total : IsTotalOrder entry_order
entry-total = then_total (on_total (λ (e : Entry). key_numbers e.key) nat_list_cmp_total) (on_total (λ (e : Entry). content_numbers e.content) nat_list_cmp_total)

then-equal-first : (o p : Ordering) → ordering_then o p ≡ Equal → o ≡ Equal
then-equal-first Less p e = e
then-equal-first Equal p e = λ i. Equal
then-equal-first Greater p e = e

then-equal-second : (o p : Ordering) → ordering_then o p ≡ Equal → p ≡ Equal
then-equal-second Less p e = cc
then-equal-second Equal p e = e
then-equal-second Greater p e = cc

abbrev entry : Key → Content → Entry
entry k c = record { key = k; content = c }

pub keys-tie : (k l : Key) → key_order k l ≡ Equal → k ≡ l
keys-tie k l e = key-numbers-one k l (numbers-tie (key_numbers k) (key_numbers l) e)

pub entries-tie : (e f : Entry) → entry_order e f ≡ Equal → e ≡ f
entries-tie e f h =
    let k : e.key ≡ f.key = keys-tie e.key f.key (then-equal-first (key_order e.key f.key) _ h) in
    let c : e.content ≡ f.content = content-numbers-one e.content f.content (numbers-tie (content_numbers e.content) (content_numbers f.content) (then-equal-second (key_order e.key f.key) _ h)) in
    λ i. entry (k i) (c i)

-- an order of which each pair that ties is one is strict
pub total-strict : {X : Type 0} (order : X → X → Ordering) → IsTotalOrder order → IsStrict order
total-strict order o = record {
  apart = λ x e. (let t : order x x ≡ Equal = tied_itself o x in let b : Less ≡ Equal = sym e ∙ t in cc);
  trans = λ x y z. o.trans x y z;
}

pub entry-strict : IsStrict entry_order
entry-strict = total-strict entry_order entry-total

pub greater-back : (e f : Entry) → entry_order e f ≡ Greater → entry_order f e ≡ Less
greater-back e f h = entry-total.antisymm f e ∙ ap ordering_reverse h

-- ---- one record more
before-later : (e x : Entry) (xs : List Entry) → entry_order e x ≡ Less → IsBeforeAll entry_order x xs → IsBeforeAll entry_order e xs
before-later e x [] h b = tt
before-later e x (y ∷ ys) h b = (entry-total.trans e x y h b.0, before-later e x ys h b.1)

pub before-all : {X : Type 0} (order : X → X → Ordering) (x : X) (xs : List X) → ((z : X) → Member z xs → order x z ≡ Less) → IsBeforeAll order x xs
before-all order x [] h = tt
before-all order x (y ∷ ys) h = (h y (inl (λ i. y)), before-all order x ys (λ z m. h z (inr m)))

-- ---- the list of all that P holds of and that some tell: f of it stands among these
-- one more of these, which tells nothing more
pub told-skip : {X Y : Type 0} (order : X → X → Ordering) (P : X → Type 0) (f : X → Y) (y : Y) (some others : List Y) (xs : List X) → some ≡ y ∷ others → ((x : X) → P x → f x ≡ y → Member (f x) others) →
    Lists order (λ x. P x × Member (f x) others) xs → Lists order (λ x. P x × Member (f x) some) xs
told-skip {X} {Y} order P f y some others xs i n l =
    let Q : List Y → Type 0 = λ v. Lists order (λ x. P x × Member (f x) v) xs in
    subst Q (sym i) (record {
      rising = l.rising;
      members = λ x. (
        λ m. (let r = (l.members x).0 m in (r.0, inr r.1)),
        λ m. (l.members x).1 (m.0, elim m.1 [ inl k ↦ n x m.0 k | inr k ↦ k ]),
      );
    })

-- one more of these, which tells what stands before all others
pub told-more : {X Y : Type 0} (order : X → X → Ordering) (P : X → Type 0) (f : X → Y) (y : Y) (some others : List Y) (x : X) (xs zs : List X) → some ≡ y ∷ others → zs ≡ x ∷ xs → P x → y ≡ f x →
    ((z : X) → Member z xs → order x z ≡ Less) → ((z : X) → P z → f z ≡ f x → z ≡ x) →
    Lists order (λ z. P z × Member (f z) others) xs → Lists order (λ z. P z × Member (f z) some) zs
told-more {X} {Y} order P f y some others x xs zs i j a k first one l =
    let Q : List Y → Type 0 = λ v. Lists order (λ z. P z × Member (f z) v) zs in
    let R : List X → Type 0 = λ v. Lists order (λ z. P z × Member (f z) (y ∷ others)) v in
    let T : X → Type 0 = λ v. P v × Member (f v) (y ∷ others) in
    subst Q (sym i) (subst R (sym j) (record {
      rising = (before-all order x xs first, l.rising);
      members = λ z. (
        λ m. elim m [
          | inl q ↦ subst T (sym q) (a, inl (sym k))
          | inr q ↦ (let r = (l.members z).0 q in (r.0, inr r.1))
        ],
        λ m. elim m.1 [
          | inl q ↦ inl (one z m.0 (q ∙ k))
          | inr q ↦ inr ((l.members z).1 (m.0, q))
        ],
      );
    }))

-- ---- one record more in its order
pub sorted-none : AreSorted [] []
sorted-none = record { rising = tt; members = λ x. (λ m. m, λ m. m) }

pub with-none : (e : Entry) → IsWith e [] (e ∷ [])
with-none e r = record { rising = (tt, tt); members = λ x. (λ m. m, λ m. m) }

pub with-first : (e x : Entry) (xs : List Entry) → entry_order e x ≡ Less → IsWith e (x ∷ xs) (e ∷ x ∷ xs)
with-first e x xs h r = record { rising = ((h, before-later e x xs h r.0), r); members = λ y. (λ m. m, λ m. m) }

pub with-there : (e x : Entry) (xs : List Entry) → entry_order e x ≡ Equal → IsWith e (x ∷ xs) (x ∷ xs)
with-there e x xs h r = record {
  rising = r;
  members = λ y. (λ m. inr m, λ m. elim m [ inl i ↦ inl (i ∙ entries-tie e x h) | inr j ↦ j ]);
}

pub with-later : (e x : Entry) (xs ys : List Entry) → entry_order e x ≡ Greater → IsWith e xs ys → IsWith e (x ∷ xs) (x ∷ ys)
with-later e x xs ys h w r =
    let l : Lists entry_order (λ z. (z ≡ e) ⊎ Member z xs) ys = w r.1 in
    record {
      rising = (
        before-all entry_order x ys (λ z m. elim ((l.members z).0 m) [
          | inl i ↦ (let P : Entry → Type 0 = λ v. entry_order x v ≡ Less in subst P (sym i) (greater-back e x h))
          | inr k ↦ before-member entry_order x z xs r.0 k
        ]),
        l.rising,
      );
      members = λ y. (
        λ m. elim m [ inl i ↦ inr (inl i) | inr k ↦ elim ((l.members y).0 k) [ inl i ↦ inl i | inr j ↦ inr (inr j) ] ],
        λ m. elim m [ inl i ↦ inr ((l.members y).1 (inl i)) | inr k ↦ elim k [ inl i ↦ inl i | inr j ↦ inr ((l.members y).1 (inr j)) ] ],
      );
    }

pub sorted-more : (e : Entry) (s old new : List Entry) → AreSorted s old → IsWith e old new → AreSorted (e ∷ s) new
sorted-more e s old new a w =
    let l : Lists entry_order (λ z. (z ≡ e) ⊎ Member z old) new = w a.rising in
    record {
      rising = l.rising;
      members = λ x. (
        λ m. elim ((l.members x).0 m) [ inl i ↦ inl i | inr k ↦ inr ((a.members x).0 k) ],
        λ m. (l.members x).1 (elim m [ inl i ↦ inl i | inr k ↦ inr ((a.members x).1 k) ]),
      );
    }

-- ---- what holds of an Ok
pub if-ok : {T E : Type 0} (r : Result T E) (P Q : T → Type 0) → ((x : T) → P x → Q x) → IfOk r P → IfOk r Q
if-ok (Ok x) P Q f h = f x h
if-ok (Err e) P Q f h = tt
