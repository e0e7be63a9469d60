-- Which records stand, and what two rows at most tell of a key at which some do not.
use Rattle.std.proofs.Common.{◌≡◌, inl, inr, ℕ, zero, suc, ◌<◌, List, [], ◌∷◌, map, Bool, true, false, not, ◌&&◌, refl, sym, ap, subst, ◌∙◌, arith}
use Rattle.std.proofs.lemmas.Bool.{cases_Bool, true≢false}
use Rattle.std.specs.List.{AllByRecursion, filter}
use Rattle.sqlite.specs.Order.{Row}
use Rattle.pw_model.specs.declared.records.Entry.{Entry}
use Rattle.sqlite.specs.Tree.{Trees}
use Rattle.pw_model.specs.declared.records.Key.{Key}
use Rattle.pw_model.specs.declared.records.Content.{Content}
use Rattle.pw_model.specs.declared.records.Named.{Named}
use Rattle.pw_model.specs.Counting.{Member, EachOnce, is_withdrawn, named_entry, standing}
use Rattle.pw_model.proofs.Counting.{entry, standing-member, standing-told}
use Rattle.pw_schema.specs.declared.kind.RecordKind.{RecordKind}
use Rattle.pw_schema.specs.declared.kind.StoreVersion.TheVariants.{Third}
use Rattle.pw_schema.specs.Rows.{withdrawal}
use Rattle.pw_store.specs.Content.{entries_of, entry_in, kinds_of, records_of, tree_of}
use Rattle.pw_store.proofs.Adding.{was_not}
use Rattle.pw_store.specs.inner.Lists.{kind_at}
use Rattle.pw_store.proofs.OfKinds.{each_kind, from_table, in_table, once_of_kind}
use Rattle.pw_store.proofs.OneKind.{held_withdrawn, withdrawn_held}
use Rattle.pw_store.proofs.Lacking.{is_none}

-- ---- members of a filtered list
pub filtered_member : (q : Entry → Bool) (s : List Entry) (e : Entry) → Member e (filter q s) → Member e s × (q e ≡ true)
filtered_member q [] e m = absurd m
filtered_member q (f ∷ s) e m = elim (cases_Bool (q f)) [
  | inl hit ↦ elim (rw hit at m) [ inl i ↦ (inl i, ap q i ∙ hit) | inr n ↦ (let r = filtered_member q s e n in (inr r.0, r.1)) ]
  | inr miss ↦ (let r = filtered_member q s e (rw miss at m) in (inr r.0, r.1))
]

pub member_filtered : (q : Entry → Bool) (s : List Entry) (e : Entry) → Member e s → q e ≡ true → Member e (filter q s)
member_filtered q [] e m h = m
member_filtered q (f ∷ s) e m h = elim (cases_Bool (q f)) [
  | inl hit ↦ rw hit (elim m [ inl i ↦ inl i | inr n ↦ inr (member_filtered q s e n h) ])
  | inr miss ↦ rw miss (elim m [
    | inl i ↦ absurd (true≢false (sym (sym (ap q i) ∙ h) ∙ miss))
    | inr n ↦ member_filtered q s e n h
  ])
]

-- ---- rows whose record stands
module _ (f : Row → Entry) (q : Entry → Bool) where
  pub map_filter : (rows : List Row) → map f (filter (λ r. q (f r)) rows) ≡ filter q (map f rows)
  map_filter [] = refl
  map_filter (r ∷ rows) = elim (cases_Bool (q (f r))) [
    | inl hit ↦ rw hit (ap (λ xs. f r ∷ xs) (map_filter rows))
    | inr miss ↦ rw miss (map_filter rows)
  ]

pub once_filtered : (q : Entry → Bool) (s : List Entry) → EachOnce s → EachOnce (filter q s)
once_filtered q [] h = tt
once_filtered q (e ∷ s) h = elim (cases_Bool (q e)) [
  | inl hit ↦ rw hit (λ m. h.0 (filtered_member q s e m).0, once_filtered q s h.1)
  | inr miss ↦ rw miss (once_filtered q s h.1)
]

pub all_filtered : (P : Row → Type 0) (p : Row → Bool) (rows : List Row) → AllByRecursion P rows → AllByRecursion P (filter p rows)
all_filtered P p [] all = tt
all_filtered P p (r ∷ rows) all = elim (cases_Bool (p r)) [
  | inl hit ↦ rw hit (all.0, all_filtered P p rows all.1)
  | inr miss ↦ rw miss (all_filtered P p rows all.1)
]

-- one test that is two, one behind the other
pub filter_both : (P : Row → Type 0) (both first second : Row → Bool) → ((r : Row) → P r → both r ≡ (first r && second r)) → (rows : List Row) → AllByRecursion P rows
    → filter both rows ≡ filter first (filter second rows)
filter_both P both first second same [] all = refl
filter_both P both first second same (r ∷ rows) all = elim (cases_Bool (second r)) [
  | inl hit ↦ elim (cases_Bool (first r)) [
    | inl also ↦ rw (same r all.0, also, hit) (rw also (ap (λ xs. r ∷ xs) (filter_both P both first second same rows all.1)))
    | inr not ↦ rw (same r all.0, not, hit) (rw not (filter_both P both first second same rows all.1))
  ]
  | inr miss ↦ elim (cases_Bool (first r)) [
    | inl also ↦ rw (same r all.0, also, miss) (filter_both P both first second same rows all.1)
    | inr not ↦ rw (same r all.0, not, miss) (filter_both P both first second same rows all.1)
  ]
]

-- none is found where it is not among them
pub none_stands : (n : ℕ) (b : Bool) (T : Type 0) → (0 < n → T) → (T → 0 < n) → (b ≡ true → T) → (T → b ≡ true) → is_none n ≡ not b
none_stands zero true T some few hit is = absurd (let bad = few (hit refl) in omega (arith, bad))
none_stands zero false T some few hit is = refl
none_stands (suc n) true T some few hit is = refl
none_stands (suc n) false T some few hit is = absurd (let bad : false ≡ true = is (some (omega arith)) in cc)

-- ---- the rows of a table whose records stand, and the records of its kind that do
module _ (db : Trees) (k : RecordKind) (key : Key) (of : kind_at key ≡ k) where
  abbrev pub stands : Entry → Bool
  stands e = not (is_withdrawn (records_of db) e)

  pub both_stand : (c : Content) → (Member (entry key c) (map (entry_in k) (filter (λ r. stands (entry_in k r)) (db (tree_of k)))) → Member (entry key c) (standing (records_of db)))
      × (Member (entry key c) (standing (records_of db)) → Member (entry key c) (map (entry_in k) (filter (λ r. stands (entry_in k r)) (db (tree_of k)))))
  both_stand c =
      let e = entry key c in
      let is = map_filter (entry_in k) stands (db (tree_of k)) in (
        λ n. (let it = filtered_member stands (entries_of k db) e (subst (Member e) is n) in standing-member (records_of db) e (from_table db e k it.0) (was_not (is_withdrawn (records_of db) e) it.1)),
        λ n. (let it = standing-told (records_of db) e n in subst (Member e) (sym is) (member_filtered stands (entries_of k db) e (in_table db e k of it.0) (ap not it.1))),
      )

  pub once_stand : EachOnce (records_of db) → EachOnce (map (entry_in k) (filter (λ r. stands (entry_in k r)) (db (tree_of k))))
  once_stand once = subst EachOnce (sym (map_filter (entry_in k) stands (db (tree_of k)))) (once_filtered stands (entries_of k db) (once_of_kind (kinds_of Third) db k (each_kind k) once))

-- ---- no row of the withdrawals is tied to a row where its record stands
pub none_tied : (db : Trees) (n : Named) (found : ℕ) → (0 < found → Member (withdrawal n) (records_of db)) → (Member (withdrawal n) (records_of db) → 0 < found) → is_none found ≡ not (is_withdrawn (records_of db) (named_entry n))
none_tied db n found some few =
    none_stands found (is_withdrawn (records_of db) (named_entry n)) (Member (withdrawal n) (records_of db)) some few (withdrawn_held db n) (held_withdrawn db n)
