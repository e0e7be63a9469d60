-- The derived order of records tells them apart, and a set in this order is the list of its members.
use Rattle.std.proofs.Common.{◌≡◌, ◌||◌, Bool, true, false, List, [], ◌∷◌, ◌++◌, refl, sym, ap, subst, ◌∙◌, inl, inr, ◌⊎◌, ◌+◌, length, length-append, Result, Ok, Err, arith}
use Rattle.std.specs.List.{list_any}
use Rattle.std.specs.Result.{OnOk, OnErr}
use Rattle.std.specs.Cmp.{IsTotalOrder}
use Rattle.std.specs.Ordering.{match_ordering, is_eq}
use Rattle.std.specs.declared.cmp.Ordering.{Ordering}
use Rattle.std.specs.declared.cmp.Ordering.TheVariants.{Less, Equal, Greater}
use Rattle.std.specs.BTreeMap.{is_at}
use Rattle.std.specs.BTreeSet.{insert_key}
use Rattle.std.proofs.lemmas.Bool.{or_cases}
use Rattle.std.proofs.lemmas.Cmp.{tied_itself}
use Rattle.pw_model.specs.declared.records.Entry.{Entry}
use Rattle.pw_model.specs.contracts.records.EntryOrd.TheImpl as derived
use Rattle.pw_model.specs.contracts.records.EntryOrd.TheImpl.Laws.{total-law, matches_eq-law}
use Rattle.pw_model.specs.Counting.{Member, IsInserted, EachOnce}
use Rattle.pw_model.proofs.Alike.{entries-alike}
use Rattle.pw_model.proofs.Same.{same_entry-decides}

abbrev pub order : Entry → Entry → Ordering
order = derived.ghosts.cmp

pub order_total : IsTotalOrder order
order_total = total-law

pub order_exact : (a b : Entry) → order a b ≡ Equal → a ≡ b
order_exact a b h = (same_entry-decides a b).0 (sym (entries-alike a b) ∙ matches_eq-law a b ∙ ap is_eq h)

pub at-is : (o : Ordering) → is_eq o ≡ true → o ≡ Equal
at-is Less h = cc
at-is Equal h = refl
at-is Greater h = cc

pub insert-inserts : (xs : List Entry) (r : Entry) → (Member r xs → ⊥) → IsInserted r xs (insert_key order xs r)
insert-inserts [] r m = ([], [], refl, refl)
insert-inserts (x ∷ xs) r m = go (insert-inserts xs r (λ i. m (inr i))) (order r x) refl
  where
    go : IsInserted r xs (insert_key order xs r) → (o : Ordering) → order r x ≡ o → IsInserted r (x ∷ xs) (match_ordering o (r ∷ x ∷ xs) (x ∷ xs) (x ∷ insert_key order xs r))
    go rest Less e = ([], x ∷ xs, refl, refl)
    go rest Equal e = absurd (m (inl (order_exact r x e)))
    go rest Greater e = (x ∷ rest.0, rest.1, ap (λ ys. x ∷ ys) rest.2, ap (λ ys. x ∷ ys) rest.3)

pub any-member : (xs : List Entry) (r : Entry) → list_any (is_at (order r)) xs ≡ true → Member r xs
any-member [] r h = cc
any-member (x ∷ xs) r h =
    elim (or_cases _ _ h) [ inl a ↦ inl (order_exact r x (at-is _ a)) | inr b ↦ inr (any-member xs r b) ]

or-true : (b : Bool) → (b || true) ≡ true
or-true true = refl
or-true false = refl

pub member-any : (xs : List Entry) (r : Entry) → Member r xs → list_any (is_at (order r)) xs ≡ true
member-any [] r m = absurd m
member-any (x ∷ xs) r m =
    elim m [
      | inl e ↦ (let a : order r x ≡ Equal = ap (order r) (sym e) ∙ tied_itself order_total r in rw a refl)
      | inr i ↦ (let h : list_any (is_at (order r)) xs ≡ true = member-any xs r i in rw h (or-true _))
    ]

-- ---- what one record more keeps
inserted-member : {X : Type 0} (e x : X) (xs ys : List X) → Member x (xs ++ e ∷ ys) → (x ≡ e) ⊎ Member x (xs ++ ys)
inserted-member e x [] ys m = m
inserted-member e x (z ∷ xs) ys (inl i) = inr (inl i)
inserted-member e x (z ∷ xs) ys (inr m) = elim (inserted-member e x xs ys m) [ inl i ↦ inl i | inr j ↦ inr (inr j) ]

member-back : {X : Type 0} (e : X) (xs ys : List X) → Member e ys → Member e (xs ++ ys)
member-back e [] ys m = m
member-back e (z ∷ xs) ys m = inr (member-back e xs ys m)

once-more : {X : Type 0} (e : X) (xs ys : List X) → (Member e (xs ++ ys) → ⊥) → EachOnce (xs ++ ys) → EachOnce (xs ++ e ∷ ys)
once-more e [] ys n h = (n, h)
once-more e (z ∷ xs) ys n h = (
  λ m. elim (inserted-member e z xs ys m) [ inl i ↦ n (inl (sym i)) | inr j ↦ h.0 j ],
  once-more e xs ys (λ m. n (inr m)) h.1,
)

pub inserted-once : {X : Type 0} (e : X) (old new : List X) → IsInserted e old new → (Member e old → ⊥) → EachOnce old → EachOnce new
inserted-once {X} e old new i n h =
    let P : List X → Type 0 = λ l. (Member e l → ⊥) × EachOnce l in
    let k : P (i.0 ++ i.1) = subst P i.2 (n, h) in
    subst EachOnce (sym i.3) (once-more e i.0 i.1 k.0 k.1)

pub inserted-all : {X : Type 0} (P : X → Type 0) (e : X) (old new : List X) → IsInserted e old new → P e → ((x : X) → Member x old → P x) → (x : X) → Member x new → P x
inserted-all {X} P e old new i p h x m =
    let Q : List X → Type 0 = λ l. Member x l in
    elim (inserted-member e x i.0 i.1 (subst Q i.3 m)) [
      | inl j ↦ subst P (sym j) p
      | inr k ↦ h x (subst Q (sym i.2) k)
    ]

pub inserted-length : {X : Type 0} (e : X) (old new : List X) → IsInserted e old new → length new ≡ length old + 1
inserted-length e old new i =
    let a : length old ≡ length (i.0 ++ i.1) = ap length i.2 in
    let b : length new ≡ length (i.0 ++ e ∷ i.1) = ap length i.3 in
    let c : length (i.0 ++ i.1) ≡ length i.0 + length i.1 = length-append i.0 i.1 in
    let d : length (i.0 ++ e ∷ i.1) ≡ length i.0 + length (e ∷ i.1) = length-append i.0 (e ∷ i.1) in
    omega arith

-- whether a call answered Ok or not
pub either : {T E X : Type 0} (P : X → Type 0) (r : Result T E) (old new more : X) → OnOk r (new ≡ more) → OnErr r (new ≡ old) → P more → P old → P new
either P (Ok x) old new more h i p q = subst P (sym h) p
either P (Err x) old new more h i p q = subst P (sym i) q
