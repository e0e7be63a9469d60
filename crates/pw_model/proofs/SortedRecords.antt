-- Records that are sorted, with no two alike, are the records of the list in their order.
use Rattle.std.proofs.Common.{◌≡◌, zero, suc, true, List, [], ◌∷◌, refl, ap, sym, subst, ◌∙◌, inl, inr, arith}
use Rattle.std.specs.List.{Contains, AllByRecursion, dedup}
use Rattle.std.specs.List.Sorted.{IsPermutation, IsSorted, IsStrictlySortedBy}
use Rattle.std.specs.Cmp.{both_ways, IsStrictWeakOrder}
use Rattle.std.specs.Ordering.{eq_by_cmp, is_eq, is_lt}
use Rattle.std.specs.declared.cmp.Ordering.{Ordering}
use Rattle.std.specs.declared.cmp.Ordering.TheVariants.{Less, Equal, Greater}
use Rattle.std.proofs.lemmas.Cmp.{tied_itself}
use Rattle.std.proofs.lemmas.List.MinMax.{ranks_by}
use Rattle.std.proofs.lemmas.List.Kept.{Contains-dedup, Contains-from_dedup, IsStrictlySortedBy-dedup}
use Rattle.std.proofs.lemmas.List.Sorted.{IsPermutation-sym, Contains-permutation}
use Rattle.pw_model.specs.declared.records.Entry.{Entry}
use Rattle.pw_model.specs.contracts.records.EntryPartialEq.TheImpl as derived
use Rattle.pw_model.specs.contracts.records.EntryEq.TheImpl.Laws.{laws-law}
use Rattle.pw_model.specs.Counting.{Member}
use Rattle.pw_model.specs.Lists.{IsBeforeAll, IsInOrder}
use Rattle.pw_model.specs.Same.{entry_order}
use Rattle.pw_model.specs.inner.Search.{AreSorted}
use Rattle.pw_model.proofs.Alike.{entries-alike}
use Rattle.pw_model.proofs.Same.{same_entry-decides}
use Rattle.pw_model.proofs.EntryOrder.{entry-total, entries-tie}

pub entry-ranks : IsStrictWeakOrder (λ (x y : Entry). is_lt (entry_order x y))
entry-ranks = ranks_by entry-total (λ (e : Entry). e)

eq-is : (o : Ordering) → is_eq o ≡ true → o ≡ Equal
eq-is Less h = cc
eq-is Equal h = refl
eq-is Greater h = cc

same-one : (x y : Entry) → derived.ghosts.eq x y ≡ true → x ≡ y
same-one x y h = (same_entry-decides x y).0 (sym (entries-alike x y) ∙ h)

one-same : (x y : Entry) → x ≡ y → derived.ghosts.eq x y ≡ true
one-same x y h = entries-alike x y ∙ (same_entry-decides x y).1 h

tied-same : (x y : Entry) → derived.ghosts.eq x y ≡ eq_by_cmp entry_order x y
tied-same x y =
    both_ways (derived.ghosts.eq x y) (eq_by_cmp entry_order x y)
    (λ h. ap (λ (v : Entry). is_eq (entry_order x v)) (sym (same-one x y h)) ∙ ap is_eq (tied_itself entry-total x))
    (λ h. one-same x y (entries-tie x y (eq-is (entry_order x y) h)))

before-all : (x : Entry) (xs : List Entry) → AllByRecursion (λ y. entry_order x y ≡ Less) xs → IsBeforeAll entry_order x xs
before-all x [] h = tt
before-all x (y ∷ ys) h = (h.0, before-all x ys h.1)

strict-rises : (xs : List Entry) → IsStrictlySortedBy entry_order xs → IsInOrder entry_order xs
unfolding IsStrictlySortedBy
strict-rises [] h = tt
strict-rises (x ∷ xs) h = (before-all x xs h.0, strict-rises xs h.1)

contains-member : {X : Type 0} (xs : List X) (x : X) → Contains xs x → Member x xs
contains-member [] x c = absurd (let l = c.1 in omega (arith, l))
contains-member (y ∷ ys) x (zero, l, e) = inl (sym e)
contains-member (y ∷ ys) x (suc k, l, e) = inr (contains-member ys x (k, omega (arith, l), e))

member-contains : {X : Type 0} (xs : List X) (x : X) → Member x xs → Contains xs x
member-contains [] x m = absurd m
member-contains (y ∷ ys) x (inl i) = (zero, omega arith, sym i)
member-contains (y ∷ ys) x (inr m) = let c = member-contains ys x m in (suc c.0, let l = c.1 in omega (arith, l), c.2)

pub sorted-told : (entries ranked all : List Entry) → IsPermutation entries ranked → IsSorted entry_order ranked → all ≡ dedup derived.ghosts.eq ranked → AreSorted entries all
sorted-told entries ranked all p o d =
    let P : List Entry → Type 0 = λ v. AreSorted entries v in
    subst P (sym d) (record {
      rising = strict-rises (dedup derived.ghosts.eq ranked) (IsStrictlySortedBy-dedup entry-total tied-same ranked o);
      members = λ x. (
        λ m. contains-member entries x (Contains-permutation ranked entries x (IsPermutation-sym entries ranked p) (Contains-from_dedup derived.ghosts.eq ranked x (member-contains (dedup derived.ghosts.eq ranked) x m))),
        λ m. contains-member (dedup derived.ghosts.eq ranked) x (Contains-dedup laws-law same-one ranked x (Contains-permutation entries ranked x p (member-contains entries x m))),
      );
    })
