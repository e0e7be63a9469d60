-- The records of several kinds together, by kinds.
use Rattle.std.proofs.Common.{◌≡◌, ◌⊎◌, ◌<◌, ℕ, inl, inr, List, [], ◌∷◌, ◌++◌, map, refl, sym, ap, subst, ◌∙◌, arith}
use Rattle.std.specs.Cmp.Lexicographic.{slice_cmp}
use Rattle.std.specs.List.{AllByRecursion}
use Rattle.std.specs.Ordering.{nat_cmp}
use Rattle.std.specs.declared.cmp.Ordering.TheVariants.{Less}
use Rattle.sqlite.specs.Order.{Row}
use Rattle.sqlite.specs.Tree.{Trees}
use Rattle.pw_tariff.specs.Office.{OfficeRules}
use Rattle.pw_model.specs.declared.records.Key.{Key}
use Rattle.pw_model.specs.declared.records.Key.TheVariants as key
use Rattle.pw_model.specs.declared.records.Named.{Named}
use Rattle.pw_model.specs.declared.records.Named.TheVariants as named
use Rattle.pw_model.specs.declared.records.Entry.{Entry}
use Rattle.pw_model.specs.Counting.{Member, EachOnce, IsInserted}
use Rattle.pw_model.specs.Office.{AllOfOffice}
use Rattle.pw_model.specs.Same.{key_numbers, key_order, named_numbers}
use Rattle.pw_schema.specs.declared.kind.RecordKind.{RecordKind}
use Rattle.pw_schema.specs.declared.kind.RecordKind.TheVariants.{Readings, Assignments, TopUps, WithdrawnReadings, WithdrawnAssignments, WithdrawnTopUps}
use Rattle.pw_schema.specs.declared.kind.StoreVersion.{StoreVersion}
use Rattle.pw_schema.specs.declared.kind.StoreVersion.TheVariants.{First, Second, Third}
use Rattle.pw_store.specs.Content.{entries_of, entry_in, kinds_of, records_among, records_of, tree_of}
use Rattle.pw_store.specs.inner.Lists.{kind_at, kind_of_named}
use Rattle.pw_store.proofs.Placing.{before, behind}

-- ---- lists in a row
pub member_in : {X : Type 0} (x : X) (xs ys : List X) → Member x (xs ++ ys) → Member x xs ⊎ Member x ys
member_in x [] ys m = inr m
member_in x (z ∷ xs) ys (inl i) = inl (inl i)
member_in x (z ∷ xs) ys (inr m) = elim (member_in x xs ys m) [ inl a ↦ inl (inr a) | inr b ↦ inr b ]

pub member_behind : {X : Type 0} (x : X) (xs ys : List X) → Member x ys → Member x (xs ++ ys)
member_behind x [] ys m = m
member_behind x (z ∷ xs) ys m = inr (member_behind x xs ys m)

pub member_front : {X : Type 0} (x : X) (xs ys : List X) → Member x xs → Member x (xs ++ ys)
member_front x [] ys m = absurd m
member_front x (z ∷ xs) ys (inl i) = inl i
member_front x (z ∷ xs) ys (inr m) = inr (member_front x xs ys m)

once_front : {X : Type 0} (xs ys : List X) → EachOnce (xs ++ ys) → EachOnce xs
once_front [] ys h = tt
once_front (x ∷ xs) ys h = (λ m. h.0 (member_front x xs ys m), once_front xs ys h.1)

once_back : {X : Type 0} (xs ys : List X) → EachOnce (xs ++ ys) → EachOnce ys
once_back [] ys h = h
once_back (x ∷ xs) ys h = once_back xs ys h.1

once_both : {X : Type 0} (xs ys : List X) → EachOnce xs → EachOnce ys → ((x : X) → Member x xs → Member x ys → ⊥) → EachOnce (xs ++ ys)
once_both [] ys a b apart = b
once_both (x ∷ xs) ys a b apart = (
  λ m. elim (member_in x xs ys m) [ inl i ↦ a.0 i | inr j ↦ apart x (inl refl) j ],
  once_both xs ys a.1 b (λ y m n. apart y (inr m) n),
)

-- ---- what there is for each kind
abbrev pub by_kind : (P : RecordKind → Type 0) → P Readings → P Assignments → P TopUps → P WithdrawnReadings → P WithdrawnAssignments → P WithdrawnTopUps → (k : RecordKind) → P k
by_kind P a b c d e f Readings = a
by_kind P a b c d e f Assignments = b
by_kind P a b c d e f TopUps = c
by_kind P a b c d e f WithdrawnReadings = d
by_kind P a b c d e f WithdrawnAssignments = e
by_kind P a b c d e f WithdrawnTopUps = f

-- which kind the key of a record is of
kind_in : (k : RecordKind) (r : Row) → kind_at (entry_in k r).key ≡ k
kind_in = by_kind (λ k. (r : Row) → kind_at (entry_in k r).key ≡ k) (λ r. refl) (λ r. refl) (λ r. refl) (λ r. refl) (λ r. refl) (λ r. refl)

pub of_kind : (k : RecordKind) (rows : List Row) (x : Entry) → Member x (map (entry_in k) rows) → kind_at x.key ≡ k
of_kind k [] x m = absurd m
of_kind k (r ∷ rows) x (inl i) = ap (λ (e : Entry). kind_at e.key) i ∙ kind_in k r
of_kind k (r ∷ rows) x (inr m) = of_kind k rows x m

-- ---- the kinds in their order
abbrev pub place : RecordKind → ℕ
place = by_kind (λ k. ℕ) 0 1 2 3 4 5

low : (n : Named) → place TopUps < place (kind_of_named n)
low (named.Reading m r t w) = omega arith
low (named.Assignment m t o) = omega arith
low (named.TopUp r a c t) = omega arith

-- so stand their keys
named_before : (n m : Named) → place (kind_of_named n) < place (kind_of_named m) → slice_cmp nat_cmp (named_numbers n) (named_numbers m) ≡ Less
unfolding named_numbers
named_before (named.Reading m r t w) (named.Reading n s u v) less = absurd (omega (arith, less))
named_before (named.Reading m r t w) (named.Assignment n u o) less = refl
named_before (named.Reading m r t w) (named.TopUp s a c u) less = refl
named_before (named.Assignment m t o) (named.Reading n s u v) less = absurd (omega (arith, less))
named_before (named.Assignment m t o) (named.Assignment n u p) less = absurd (omega (arith, less))
named_before (named.Assignment m t o) (named.TopUp s a c u) less = refl
named_before (named.TopUp r a c t) (named.Reading n s u v) less = absurd (omega (arith, less))
named_before (named.TopUp r a c t) (named.Assignment n u o) less = absurd (omega (arith, less))
named_before (named.TopUp r a c t) (named.TopUp s b d u) less = absurd (omega (arith, less))

pub key_before : (x y : Key) → place (kind_at x) < place (kind_at y) → key_order x y ≡ Less
unfolding key_numbers
key_before (key.Reading m r t) (key.Reading n s u) less = absurd (omega (arith, less))
key_before (key.Reading m r t) (key.Assignment n u) less = refl
key_before (key.Reading m r t) (key.TopUp s) less = refl
key_before (key.Reading m r t) (key.Withdrawal w) less = refl
key_before (key.Assignment m t) (key.Reading n s u) less = absurd (omega (arith, less))
key_before (key.Assignment m t) (key.Assignment n u) less = absurd (omega (arith, less))
key_before (key.Assignment m t) (key.TopUp s) less = refl
key_before (key.Assignment m t) (key.Withdrawal w) less = refl
key_before (key.TopUp r) (key.Reading n s u) less = absurd (omega (arith, less))
key_before (key.TopUp r) (key.Assignment n u) less = absurd (omega (arith, less))
key_before (key.TopUp r) (key.TopUp s) less = absurd (omega (arith, less))
key_before (key.TopUp r) (key.Withdrawal w) less = refl
key_before (key.Withdrawal v) (key.Reading n s u) less = absurd (let l = low v in omega (arith, l, less))
key_before (key.Withdrawal v) (key.Assignment n u) less = absurd (let l = low v in omega (arith, l, less))
key_before (key.Withdrawal v) (key.TopUp s) less = absurd (let l = low v in omega (arith, l, less))
key_before (key.Withdrawal v) (key.Withdrawal w) less = named_before v w less

abbrev AreBehind : RecordKind → List RecordKind → Type 0
AreBehind k kinds = AllByRecursion (λ j. place k < place j) kinds

not_among : (k : RecordKind) (kinds : List RecordKind) → AreBehind k kinds → Member k kinds → ⊥
not_among k [] low m = m
not_among k (j ∷ kinds) low (inl i) = let same = ap place i in let less = low.0 in omega (arith, same, less)
not_among k (j ∷ kinds) low (inr m) = not_among k kinds low.1 m

all_once : EachOnce (kinds_of Third)
all_once = (
  not_among Readings (Assignments ∷ TopUps ∷ WithdrawnReadings ∷ WithdrawnAssignments ∷ WithdrawnTopUps ∷ []) (omega arith, (omega arith, (omega arith, (omega arith, (omega arith, tt))))),
  (
    not_among Assignments (TopUps ∷ WithdrawnReadings ∷ WithdrawnAssignments ∷ WithdrawnTopUps ∷ []) (omega arith, (omega arith, (omega arith, (omega arith, tt)))),
    (
      not_among TopUps (WithdrawnReadings ∷ WithdrawnAssignments ∷ WithdrawnTopUps ∷ []) (omega arith, (omega arith, (omega arith, tt))),
      (
        not_among WithdrawnReadings (WithdrawnAssignments ∷ WithdrawnTopUps ∷ []) (omega arith, (omega arith, tt)),
        (not_among WithdrawnAssignments (WithdrawnTopUps ∷ []) (omega arith, tt), (not_among WithdrawnTopUps [] tt, tt)),
      ),
    ),
  ),
)

pub kinds_once : (v : StoreVersion) → EachOnce (kinds_of v)
kinds_once First = (
  not_among Readings (Assignments ∷ TopUps ∷ []) (omega arith, (omega arith, tt)),
  (not_among Assignments (TopUps ∷ []) (omega arith, tt), (not_among TopUps [] tt, tt)),
)
kinds_once Second = all_once
kinds_once Third = all_once

pub each_kind : (k : RecordKind) → Member k (kinds_of Third)
each_kind = by_kind (λ k. Member k (kinds_of Third)) (inl refl) (inr (inl refl)) (inr (inr (inl refl))) (inr (inr (inr (inl refl)))) (inr (inr (inr (inr (inl refl))))) (inr (inr (inr (inr (inr (inl refl))))))

-- ---- the records of some kinds
pub some_kind : (kinds : List RecordKind) (db : Trees) (x : Entry) → Member x (records_among kinds db) → (k : RecordKind) × (Member k kinds × Member x (entries_of k db))
some_kind [] db x m = absurd m
some_kind (k ∷ kinds) db x m = elim (member_in x (entries_of k db) (records_among kinds db) m) [
  | inl a ↦ (k, (inl refl, a))
  | inr b ↦ (let it = some_kind kinds db x b in (it.0, (inr it.1.0, it.1.1)))
]

pub among_kinds : (kinds : List RecordKind) (db : Trees) (k : RecordKind) (x : Entry) → Member k kinds → Member x (entries_of k db) → Member x (records_among kinds db)
among_kinds [] db k x at m = absurd at
among_kinds (j ∷ kinds) db k x (inl i) m = member_front x (entries_of j db) _ (subst (λ l. Member x (entries_of l db)) i m)
among_kinds (j ∷ kinds) db k x (inr n) m = member_behind x (entries_of j db) _ (among_kinds kinds db k x n m)

pub once_of_kind : (kinds : List RecordKind) (db : Trees) (k : RecordKind) → Member k kinds → EachOnce (records_among kinds db) → EachOnce (entries_of k db)
once_of_kind [] db k at once = absurd at
once_of_kind (j ∷ kinds) db k (inl i) once = subst (λ l. EachOnce (entries_of l db)) (sym i) (once_front (entries_of j db) _ once)
once_of_kind (j ∷ kinds) db k (inr n) once = once_of_kind kinds db k n (once_back (entries_of j db) _ once)

pub once_among : (kinds : List RecordKind) (db : Trees) → EachOnce kinds → ((k : RecordKind) → Member k kinds → EachOnce (entries_of k db)) → EachOnce (records_among kinds db)
once_among [] db each once = tt
once_among (k ∷ kinds) db each once =
    once_both (entries_of k db) (records_among kinds db) (once k (inl refl)) (once_among kinds db each.1 (λ j m. once j (inr m)))
    (λ x a b. (let it = some_kind kinds db x b in each.0 (subst (λ j. Member j kinds) (sym (of_kind it.0 _ x it.1.1) ∙ of_kind k _ x a) it.1.0)))

pub office_among : (office : OfficeRules) (kinds : List RecordKind) (db : Trees) → ((k : RecordKind) → Member k kinds → AllOfOffice office (entries_of k db)) → AllOfOffice office (records_among kinds db)
office_among office kinds db each e m = let it = some_kind kinds db e m in each it.0 it.1.0 e it.1.1

-- ---- where the tables of records are the same, but for one
pub same_among : (kinds : List RecordKind) (old new : Trees) → ((k : RecordKind) → Member k kinds → new (tree_of k) ≡ old (tree_of k)) → records_among kinds new ≡ records_among kinds old
same_among [] old new same = refl
same_among (k ∷ kinds) old new same = rw (same k (inl refl), same_among kinds old new (λ j m. same j (inr m))) refl

pub inserted_among : (kinds : List RecordKind) (old new : Trees) (k : RecordKind) (e : Entry) → EachOnce kinds → Member k kinds → ((j : RecordKind) → (j ≡ k → ⊥) → new (tree_of j) ≡ old (tree_of j))
    → IsInserted e (entries_of k old) (entries_of k new) → IsInserted e (records_among kinds old) (records_among kinds new)
inserted_among [] old new k e each at same it = absurd at
inserted_among (j ∷ kinds) old new k e each (inl i) same it =
    let rest = same_among kinds old new (λ l m. same l (λ s. each.0 (subst (λ n. Member n kinds) (s ∙ i) m))) in
    let mine = subst (λ l. IsInserted e (entries_of l old) (entries_of l new)) i it in
    subst (λ xs. IsInserted e (entries_of j old ++ records_among kinds old) (entries_of j new ++ xs)) (sym rest) (before e (records_among kinds old) (entries_of j old) (entries_of j new) mine)
inserted_among (j ∷ kinds) old new k e each (inr n) same it =
    let here : entries_of j new ≡ entries_of j old = ap (map (entry_in j)) (same j (λ s. each.0 (subst (λ l. Member l kinds) (sym s) n))) in
    subst (λ xs. IsInserted e (entries_of j old ++ records_among kinds old) (xs ++ records_among kinds new)) (sym here)
    (behind e (entries_of j old) (records_among kinds old) (records_among kinds new) (inserted_among kinds old new k e each.1 n same it))

-- ---- of a store that is open
pub in_table : (db : Trees) (x : Entry) (k : RecordKind) → kind_at x.key ≡ k → Member x (records_of db) → Member x (entries_of k db)
in_table db x k is m = let it = some_kind (kinds_of Third) db x m in subst (λ j. Member x (entries_of j db)) (sym (of_kind it.0 _ x it.1.1) ∙ is) it.1.1

pub from_table : (db : Trees) (x : Entry) (k : RecordKind) → Member x (entries_of k db) → Member x (records_of db)
from_table db x k m = among_kinds (kinds_of Third) db k x (each_kind k) m
