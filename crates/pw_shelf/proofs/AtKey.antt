-- The records with one key stand together in a set in order.
use Rattle.std.proofs.Common.{◌≡◌, ◌⊎◌, Bool, true, false, not, ◌&&◌, List, [], ◌∷◌, ◌++◌, refl, sym, ap, subst, ◌∙◌, inl, inr, arith}
use Rattle.std.specs.Cmp.{both_ways}
use Rattle.std.specs.List.{AllByRecursion, filter}
use Rattle.std.specs.List.Sorted.{IsStrictlySortedBy}
use Rattle.std.specs.Ordering.{is_eq, is_le, ordering_then}
use Rattle.std.specs.declared.cmp.Ordering.{Ordering}
use Rattle.std.specs.declared.cmp.Ordering.TheVariants.{Less, Equal, Greater}
use Rattle.std.specs.declared.ops.Bound.TheVariants.{Included, Unbounded}
use Rattle.std.specs.BTreeMap.Range.{range_contains}
use Rattle.std.proofs.lemmas.Bool.{cases_Bool, true≢false}
use Rattle.std.proofs.lemmas.Bool.Decides.{nat_tests}
use Rattle.std.proofs.lemmas.Cmp.{tied_itself}
use Rattle.pw_model.specs.declared.records.Key.{Key}
use Rattle.pw_model.specs.declared.records.Content.{Content}
use Rattle.pw_model.specs.declared.records.Content.TheVariants as content
use Rattle.pw_model.specs.declared.records.Contents.{Contents}
use Rattle.pw_model.specs.declared.records.Contents.TheVariants.{Nothing, One, Several}
use Rattle.pw_model.specs.declared.records.Entry.{Entry}
use Rattle.pw_model.specs.contracts.records.KeyOrd.TheImpl as derived_key
use Rattle.pw_model.specs.contracts.records.KeyOrd.TheImpl.Laws as key_laws
use Rattle.pw_model.specs.contracts.records.ContentOrd.TheImpl as derived_content
use Rattle.pw_model.specs.Counting.{Member, is_withdrawn, standing_among, standing, contents_at}
use Rattle.pw_model.specs.Payments.{keys as keys_of, stands_in}
use Rattle.pw_model.specs.Same.{same_key}
use Rattle.pw_model.proofs.Alike.{keys-alike}
use Rattle.pw_model.proofs.Same.{same_key-decides}
use Rattle.pw_model.proofs.Counting.{entry, Tells, standing-to, standing-back, standing-told, standing-member, tells, tells-one, tells-agree}
use Rattle.pw_model.proofs.Once.{stands-decides}
use Rattle.pw_model.proofs.Answers.{key-to, key-back}
use Rattle.pw_shelf.specs.inner.Kinds.{lowest}
use Rattle.pw_shelf.proofs.InOrder.{order, order_total}
use Rattle.pw_shelf.proofs.Listing.{member-front, member-last, member-push}

abbrev pub key_order : Key → Key → Ordering
key_order = derived_key.ghosts.cmp

pub key_exact : (a b : Key) → key_order a b ≡ Equal → a ≡ b
key_exact a b h = (same_key-decides a b).0 (sym (keys-alike a b) ∙ key_laws.matches_eq-law a b ∙ ap is_eq h)

-- what stands between two records with one key has it
pub same-between : (a f e : Entry) → is_le (order a f) ≡ true → order f e ≡ Less → a.key ≡ e.key → f.key ≡ e.key
same-between a f e h l i = go (key_order f.key e.key) refl
  where
    go : (o : Ordering) → key_order f.key e.key ≡ o → f.key ≡ e.key
    go Equal j = key_exact f.key e.key j
    go Less j =
        let g : key_order a.key f.key ≡ Greater = ap (λ (k : Key). key_order k f.key) i ∙ key_laws.total-law.antisymm e.key f.key ∙ (rw j refl) in
        absurd (true≢false (sym h ∙ (rw g refl)))
    go Greater j = let g : Greater ≡ Less = sym (rw j refl) ∙ l in cc

pub content-lowest : (c : Content) → is_le (derived_content.ghosts.cmp (content.Reading 0) c) ≡ true
content-lowest (content.Reading w) = grind (arith, nat_tests)
content-lowest (content.Assignment o) = refl
content-lowest (content.TopUp a c t) = refl
content-lowest content.Withdrawal = refl

pub and-both : (b : Bool) → b ≡ true → (b && not false) ≡ true
and-both b h = rw h refl

and-left : (b : Bool) → (b && not false) ≡ true → b ≡ true
and-left true h = refl
and-left false h = cc

then-le : (o p : Ordering) → o ≡ Equal → is_le p ≡ true → is_le (ordering_then o p) ≡ true
then-le o p h i = rw h i

-- no record with the key stands before the lowest
abbrev pub from : Key → Entry → Bool
from k = range_contains order (Included (lowest k)) Unbounded

from-lowest : (k : Key) (c : Content) → from k (entry k c) ≡ true
from-lowest k c =
    let t : key_order k k ≡ Equal = tied_itself key_laws.total-law k in
    and-both (is_le (order (lowest k) (entry k c))) (then-le (key_order k k) (derived_content.ghosts.cmp (content.Reading 0) c) t (content-lowest c))

pub from-le : (k : Key) (e : Entry) → from k e ≡ true → is_le (order (lowest k) e) ≡ true
from-le k e h = and-left (is_le (order (lowest k) e)) h

-- ---- what a filter keeps
module _ {X : Type 0} (p : X → Bool) where
  pub kept-member : (xs : List X) (e : X) → Member e xs → p e ≡ true → Member e (filter p xs)
  kept-member [] e m h = absurd m
  kept-member (x ∷ xs) e m h =
      elim (cases_Bool (p x)) [
        | inl t ↦ rw t (elim m [ inl i ↦ inl i | inr j ↦ inr (kept-member xs e j h) ])
        | inr f ↦ rw f (elim m [ inl i ↦ absurd (true≢false (sym h ∙ ap p i ∙ f)) | inr j ↦ kept-member xs e j h ])
      ]

  pub member-kept : (xs : List X) (e : X) → Member e (filter p xs) → Member e xs × (p e ≡ true)
  member-kept [] e m = absurd m
  member-kept (x ∷ xs) e m =
      elim (cases_Bool (p x)) [
        | inl t ↦ (let P : List X → Type 0 = Member e in
            let n : Member e (x ∷ filter p xs) = rw t at m in
            elim n [ inl i ↦ (inl i, ap p i ∙ t) | inr j ↦ (let q = member-kept xs e j in (inr q.0, q.1)) ])
        | inr f ↦ (let n : Member e (filter p xs) = rw f at m in let q = member-kept xs e n in (inr q.0, q.1))
      ]

module _ (p : Entry → Bool) where
  all-kept : (P : Entry → Type 0) (xs : List Entry) → AllByRecursion P xs → AllByRecursion P (filter p xs)
  all-kept P [] h = tt
  all-kept P (x ∷ xs) h =
      elim (cases_Bool (p x)) [ inl t ↦ rw t (h.0, all-kept P xs h.1) | inr f ↦ rw f (all-kept P xs h.1) ]

  pub sorted-kept : (xs : List Entry) → IsStrictlySortedBy order xs → IsStrictlySortedBy order (filter p xs)
  unfolding IsStrictlySortedBy
  sorted-kept [] h = tt
  sorted-kept (x ∷ xs) h =
      elim (cases_Bool (p x)) [ inl t ↦ rw t (all-kept (λ y. order x y ≡ Less) xs h.0, sorted-kept xs h.1) | inr f ↦ rw f (sorted-kept xs h.1) ]

pub all-member : (P : Entry → Type 0) (xs : List Entry) (e : Entry) → AllByRecursion P xs → Member e xs → P e
all-member P [] e h m = absurd m
all-member P (x ∷ xs) e h m = elim m [ inl i ↦ subst P (sym i) h.0 | inr j ↦ all-member P xs e h.1 j ]

as-entry : (f : Entry) (k : Key) → f.key ≡ k → f ≡ entry k f.content
as-entry f k i = ap (λ (l : Key). entry l f.content) i

-- ---- a set in order, around one of its records
pub after : (xs ys : List Entry) (e x : Entry) → IsStrictlySortedBy order (xs ++ e ∷ ys) → Member x ys → order e x ≡ Less
unfolding IsStrictlySortedBy
after [] ys e x s m = all-member (λ y. order e y ≡ Less) ys x s.0 m
after (z ∷ xs) ys e x s m = after xs ys e x s.1 m

pub member-in : (xs ys : List Entry) (e x : Entry) → Member x (xs ++ e ∷ ys) → Member x xs ⊎ (x ≡ e) ⊎ Member x ys
member-in [] ys e x (inl i) = inr (inl i)
member-in [] ys e x (inr m) = inr (inr m)
member-in (z ∷ xs) ys e x (inl i) = inl (inl i)
member-in (z ∷ xs) ys e x (inr m) = elim (member-in xs ys e x m) [ inl j ↦ inl (inr j) | inr j ↦ inr j ]

pub member-mid : (xs ys : List Entry) (e : Entry) → Member e (xs ++ e ∷ ys)
member-mid [] ys e = inl refl
member-mid (z ∷ xs) ys e = inr (member-mid xs ys e)

-- it isn't among those before it
not-before : (xs ys : List Entry) (e : Entry) → IsStrictlySortedBy order (xs ++ e ∷ ys) → Member e xs → ⊥
unfolding IsStrictlySortedBy
not-before [] ys e s m = m
not-before (z ∷ xs) ys e s m =
    elim m [
      | inl i ↦ (
          let less : order z e ≡ Less = all-member (λ y. order z y ≡ Less) (xs ++ e ∷ ys) e s.0 (member-mid xs ys e) in
          let tied : order z e ≡ Equal = ap (order z) i ∙ tied_itself order_total z in
          let x : Less ≡ Equal = sym less ∙ tied in cc)
      | inr j ↦ not-before xs ys e s.1 j
    ]

-- ---- those seen so far that stand
pub stands-more : (s xs : List Entry) (e : Entry) → is_withdrawn s e ≡ false → standing_among s (xs ++ e ∷ []) ≡ standing_among s xs ++ e ∷ []
stands-more s [] e n = rw n refl
stands-more s (x ∷ xs) e n =
    let r = stands-more s xs e n in
    elim (cases_Bool (is_withdrawn s x)) [ inl t ↦ rw t r | inr f ↦ rw f (ap (λ l. x ∷ l) r) ]

pub stands-less : (s xs : List Entry) (e : Entry) → is_withdrawn s e ≡ true → standing_among s (xs ++ e ∷ []) ≡ standing_among s xs
stands-less s [] e n = rw n refl
stands-less s (x ∷ xs) e n =
    let r = stands-less s xs e n in
    elim (cases_Bool (is_withdrawn s x)) [ inl t ↦ rw t r | inr f ↦ rw f (ap (λ l. x ∷ l) r) ]

-- where none of them has the key, the next that stands and has it is the one
pub tells-first : (s xs : List Entry) (e : Entry) (k : Key) → Tells (standing_among s xs) k Nothing → e.key ≡ k → is_withdrawn s e ≡ false → Tells (standing_among s (xs ++ e ∷ [])) k (One e.content)
tells-first s xs e k h i n =
    let is = stands-more s xs e n in
    let P : Entry → Type 0 = λ f. Member f (standing_among s xs ++ e ∷ []) in
    let Q : List Entry → Type 0 = λ l. Tells l k (One e.content) in
    subst Q (sym is) (
      subst P (as-entry e k i) (member-last e (standing_among s xs)),
      λ d m. elim (member-push (entry k d) e (standing_among s xs) m) [
        | inl j ↦ absurd (h d j)
        | inr j ↦ ap (λ (f : Entry). f.content) j
      ],
    )

-- and one that is withdrawn changes nothing
pub tells-passed : (s xs : List Entry) (e : Entry) (k : Key) (a : Contents) → Tells (standing_among s xs) k a → is_withdrawn s e ≡ true → Tells (standing_among s (xs ++ e ∷ [])) k a
tells-passed s xs e k a h n = let Q : List Entry → Type 0 = λ l. Tells l k a in subst Q (sym (stands-less s xs e n)) h

-- ---- what the records from the lowest on tell
module _ (keys : List Entry) (sorted : IsStrictlySortedBy order keys) (k : Key) (rows : List Entry) (is : rows ≡ filter (from k) keys) where
  found : (c : Content) → Member (entry k c) keys → Member (entry k c) rows
  found c m = let P : List Entry → Type 0 = Member (entry k c) in subst P (sym is) (kept-member (from k) keys (entry k c) m (from-lowest k c))

  held : (e : Entry) → Member e rows → Member e keys × (from k e ≡ true)
  held e m = let P : List Entry → Type 0 = Member e in member-kept (from k) keys e (subst P is m)

  in_order : IsStrictlySortedBy order rows
  in_order = subst (IsStrictlySortedBy order) (sym is) (sorted-kept (from k) keys sorted)

  first-in : (f : Entry) (others : List Entry) → rows ≡ f ∷ others → Member f rows
  first-in f others i = let P : List Entry → Type 0 = Member f in subst P (sym i) (inl refl)

  -- ---- whether one of them has the key
  first-has : (f : Entry) (others : List Entry) → rows ≡ f ∷ others → (c : Content) → Member (entry k c) keys → f.key ≡ k
  unfolding IsStrictlySortedBy
  first-has f others i c m =
      let P : List Entry → Type 0 = Member (entry k c) in
      let s : IsStrictlySortedBy order (f ∷ others) = subst (IsStrictlySortedBy order) i in_order in
      elim (subst P i (found c m)) [
        | inl j ↦ sym (ap (λ (e : Entry). e.key) j)
        | inr j ↦ same-between (lowest k) f (entry k c) (from-le k f (held f (first-in f others i)).1) (all-member (λ y. order f y ≡ Less) others (entry k c) s.0 j) refl
      ]

  one-has : stands_in same_key k (keys_of keys) ≡ true → (c : Content) × Member (entry k c) keys
  one-has t =
      let g = key-to k keys ((stands-decides same_key same_key-decides (λ v. 0) k (keys_of keys)).0 t) in
      let P : Entry → Type 0 = λ e. Member e keys in
      (g.0.content, subst P (as-entry g.0 k g.1.1) g.1.0)

  pub first-tells : (f : Entry) (others : List Entry) (b : Bool) → rows ≡ f ∷ others → b ≡ same_key f.key k → b ≡ stands_in same_key k (keys_of keys)
  first-tells f others b i h =
      both_ways b (stands_in same_key k (keys_of keys))
      (λ t.
      let P : Key → Type 0 = λ v. Member v (keys_of keys) in
      let e : f.key ≡ k = (same_key-decides f.key k).0 (sym h ∙ t) in
      (stands-decides same_key same_key-decides (λ v. 0) k (keys_of keys)).1 (subst P e (key-back f keys (held f (first-in f others i)).0)))
      (λ t. (let g = one-has t in h ∙ (same_key-decides f.key k).1 (first-has f others i g.0 g.1)))

  pub none-has : rows ≡ [] → false ≡ stands_in same_key k (keys_of keys)
  none-has i = elim (cases_Bool (stands_in same_key k (keys_of keys))) [
    | inr f ↦ sym f
    | inl t ↦ absurd (let g = one-has t in let P : List Entry → Type 0 = Member (entry k g.0) in subst P i (found g.0 g.1))
  ]

  -- ---- what those of them tell that stand
  stands : (seen : List Entry) (e : Entry) → ((x : Entry) → Member x seen → Member x keys) → Member e (standing_among keys seen) → Member e (standing keys)
  stands seen e part m = let p = standing-to keys seen e m in standing-member keys e (part e p.0) p.1

  told : (seen : List Entry) (a : Contents) → ((x : Entry) → Member x seen → Member x keys) → ((c : Content) → Member (entry k c) keys → Member (entry k c) seen) → Tells (standing_among keys seen) k a → a ≡ contents_at keys k
  told seen a part all h =
      tells-agree (standing_among keys seen) (standing keys) k a (contents_at keys k)
      (λ c. (
        λ m. stands seen (entry k c) part m,
        λ m. (let p = standing-told keys (entry k c) m in standing-back keys seen (entry k c) (all c p.0) p.1),
      )) h (tells keys k)

  -- all were seen
  pub told-whole : (seen : List Entry) (a : Contents) → seen ≡ rows → Tells (standing_among keys seen) k a → a ≡ contents_at keys k
  told-whole seen a i h = told seen a
      (λ x m. (let P : List Entry → Type 0 = Member x in (held x (subst P i m)).0))
      (λ c m. (let P : List Entry → Type 0 = Member (entry k c) in subst P (sym i) (found c m))) h

  module _ (seen others : List Entry) (e : Entry) (i : rows ≡ seen ++ e ∷ others) where
    seen-held : (x : Entry) → Member x seen → Member x keys
    seen-held x m = let P : List Entry → Type 0 = Member x in (held x (subst P (sym i) (member-front x seen (e ∷ others) m))).0

    next : Member e rows
    next = let P : List Entry → Type 0 = Member e in subst P (sym i) (member-mid seen others e)

    around : IsStrictlySortedBy order (seen ++ e ∷ others)
    around = subst (IsStrictlySortedBy order) i in_order

    -- from the first with another key on there are no more
    pub told-part : (a : Contents) → (e.key ≡ k → ⊥) → Tells (standing_among keys seen) k a → a ≡ contents_at keys k
    told-part a n h = told seen a seen-held
        (λ c m. (let P : List Entry → Type 0 = Member (entry k c) in
        elim (member-in seen others e (entry k c) (subst P i (found c m))) [
          | inl j ↦ j
          | inr (inl j) ↦ absurd (n (sym (ap (λ (x : Entry). x.key) j)))
          | inr (inr j) ↦ absurd (n (same-between (lowest k) e (entry k c) (from-le k e (held e next).1) (after seen others e (entry k c) around j) refl))
        ])) h

    -- a second that stands
    pub told-several : (a : Contents) → e.key ≡ k → is_withdrawn keys e ≡ false → (a ≡ Nothing → ⊥) → Tells (standing_among keys seen) k a → Several ≡ contents_at keys k
    told-several Nothing j n some h = absurd (some refl)
    told-several (One c) j n some h =
        let P : Entry → Type 0 = λ x. Member x (standing keys) in
        let Q : Entry → Type 0 = λ x. Member x seen in
        tells-one (standing keys) (standing keys) k Several (contents_at keys k) (λ x. (λ m. m, λ m. m)) (
          c,
          e.content,
          stands seen (entry k c) seen-held h.0,
          subst P (as-entry e k j) (standing-member keys e (held e next).0 n),
          λ same. not-before seen others e around (subst Q (ap (λ (x : Content). entry k x) same ∙ sym (as-entry e k j)) (standing-to keys seen (entry k c) h.0).0),
        ) (tells keys k)
    told-several Several j n some h =
        tells-one (standing keys) (standing keys) k Several (contents_at keys k) (λ x. (λ m. m, λ m. m))
        (h.0, h.1, stands seen (entry k h.0) seen-held h.2, stands seen (entry k h.1) seen-held h.3, h.4) (tells keys k)
