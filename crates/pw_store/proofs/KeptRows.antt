-- Rows that are found by a key: what becomes of them when some are taken away, and when one is put in.
use Rattle.std.proofs.Common.{◌≡◌, inl, inr, ℤ, List, [], ◌∷◌, map, find, Bool, true, false, cond, not, ◌||◌, ◌&&◌, Option, option_map, Some, None, refl, sym, ap, subst, ◌∙◌, Ordering, Less, Equal, Greater}
use Rattle.std.proofs.lemmas.Bool.{cases_Bool}
use Rattle.std.specs.List.{AllByRecursion, list_any, filter}
use Rattle.std.specs.List.Sorted.{IsPermutation}
use Rattle.std.proofs.lemmas.List.Sorted.{list_any-IsPermutation}
use Rattle.std.specs.Cmp.{int_ranked}
use Rattle.std.specs.Ordering.{is_eq, ordering_reverse, int_cmp}
use Rattle.sqlite.specs.declared.types.Value.{Value}
use Rattle.sqlite.specs.declared.types.Value.TheVariants.{Int}
use Rattle.sqlite.specs.Order.{Row, value_cmp}
use Rattle.sqlite.specs.Tree.{rowid, has_rowid, without_rowid, put_row}
use Rattle.sqlite.specs.Edit.{without_all, id_in, is_taken}
use Rattle.sqlite_value.proofs.OrderLemmas.{value_cmp_total, value_cmp-Int}
use Rattle.sqlite_trees.proofs.TreeLemmas.{all-put_row}
use Rattle.sqlite_trees.proofs.ListLemmas.{filter_same, filter_all, all_weaker, all_both, all-filter}
use Rattle.pw_model.specs.Counting.{Member, EachOnce}
use Rattle.pw_shelf.proofs.InOrder.{inserted-once}
use Rattle.pw_store.specs.Keyed.{AreKeyed, HasRowid}
use Rattle.pw_store.proofs.Placing.{not_first, not_second, put_inserts}

abbrev pub ids : List Row → List ℤ
ids = map (λ r. id_in (rowid r))

-- ---- taking rows away by their rowids
both : (p q s : Row → Bool) → ((r : Row) → s r ≡ (q r && p r)) → (rows : List Row) → filter p (filter q rows) ≡ filter s rows
both p q s same [] = refl
both p q s same (r ∷ rows) =
    rw (same r) (elim (q r) as (λ b. filter p (cond b (r ∷ filter q rows) (filter q rows)) ≡ cond (b && p r) (r ∷ filter s rows) (filter s rows)) [
      | true ↦ ap (λ more. cond (p r) (r ∷ more) more) (both p q s same rows)
      | false ↦ both p q s same rows
    ])

nor : (a b : Bool) → not (a || b) ≡ (not a && not b)
nor true b = refl
nor false b = refl

kept_all : (rows : List Row) → AllByRecursion (λ r. true ≡ true) rows
kept_all [] = tt
kept_all (r ∷ rows) = (refl, kept_all rows)

gone_all : (gone : List ℤ) (rows : List Row) → without_all rows gone ≡ filter (λ r. not (list_any (λ id. has_rowid id r) gone)) rows
gone_all [] rows = sym (filter_all (λ _. true) rows (kept_all rows))
gone_all (id ∷ gone) rows =
    gone_all gone (without_rowid id rows)
    ∙ both (λ r. not (list_any (λ id. has_rowid id r) gone)) (λ r. not (has_rowid id r)) (λ r. not (has_rowid id r || list_any (λ id. has_rowid id r) gone)) (λ r. nor (has_rowid id r) _) rows

turned : (o : Ordering) → o ≡ ordering_reverse o → is_eq o ≡ true
turned Less e = absurd (let f : Less ≡ Greater = e in cc)
turned Equal e = refl
turned Greater e = absurd (let f : Greater ≡ Less = e in cc)

pub tied_self : (v : Value) → is_eq (value_cmp v v) ≡ true
tied_self v = turned _ (value_cmp_total.antisymm v v)

itself : (r : Row) → HasRowid r → has_rowid (id_in (rowid r)) r ≡ true
itself r h = subst (λ v. is_eq (value_cmp (rowid r) v) ≡ true) h (tied_self (rowid r))

is_equal : (o : Ordering) → is_eq o ≡ true → o ≡ Equal
is_equal Less e = absurd (let f : false ≡ true = e in cc)
is_equal Equal e = refl
is_equal Greater e = absurd (let f : false ≡ true = e in cc)

-- two rows with other rowids
other : (x r : Row) → HasRowid x → HasRowid r → (rowid x ≡ rowid r → ⊥) → has_rowid (id_in (rowid x)) r ≡ false
other x r hx hr apart = elim (cases_Bool (has_rowid (id_in (rowid x)) r)) [
  | inl up ↦ (let tie : int_cmp (id_in (rowid r)) (id_in (rowid x)) ≡ Equal = is_equal _ (ap is_eq (sym (value_cmp-Int (id_in (rowid r)) (id_in (rowid x)))) ∙ ap (λ v. is_eq (value_cmp v (Int (id_in (rowid x))))) (sym hr) ∙ up) in
      let same : id_in (rowid r) ≡ id_in (rowid x) = int_ranked _ _ Equal (sym tie) in
      absurd (apart (hx ∙ ap Int (sym same) ∙ sym hr)))
  | inr down ↦ down
]

apart_all : {A : Type 0} (f : Row → A) (x : Row) (rows : List Row) → (Member (f x) (map f rows) → ⊥) → AllByRecursion (λ r. f x ≡ f r → ⊥) rows
apart_all f x [] none = tt
apart_all f x (r ∷ rows) none = (λ e. none (inl e), apart_all f x rows (λ m. none (inr m)))

none_has : (x : Row) (rows : List Row) → AllByRecursion (λ r. has_rowid (id_in (rowid r)) x ≡ false) rows → list_any (λ id. has_rowid id x) (ids rows) ≡ false
none_has x [] all = refl
none_has x (r ∷ rows) all = rw all.0 (none_has x rows all.1)

picked : (p : Row → Bool) (rows : List Row) → EachOnce (map rowid rows) → AllByRecursion HasRowid rows → AllByRecursion (λ r. list_any (λ id. has_rowid id r) (ids (filter p rows)) ≡ p r) rows
picked p [] once ints = tt
picked p (x ∷ rows) once ints = (here (p x), later (picked p rows once.1 ints.1))
  where
    far : AllByRecursion (λ r. rowid x ≡ rowid r → ⊥) rows
    far = apart_all rowid x rows once.0

    here : (b : Bool) → list_any (λ id. has_rowid id x) (ids (cond b (x ∷ filter p rows) (filter p rows))) ≡ b
    here true = rw (itself x ints.0) refl
    here false = none_has x (filter p rows) (all-filter (λ r. has_rowid (id_in (rowid r)) x ≡ false) p rows (all_both (λ r. rowid x ≡ rowid r → ⊥) HasRowid (λ r. has_rowid (id_in (rowid r)) x ≡ false) (λ r apart h. other r x h ints.0 (λ e. apart (sym e))) rows far ints.1))

    skip : (b : Bool) (r : Row) → HasRowid r → (rowid x ≡ rowid r → ⊥) → list_any (λ id. has_rowid id r) (ids (filter p rows)) ≡ p r
        → list_any (λ id. has_rowid id r) (ids (cond b (x ∷ filter p rows) (filter p rows))) ≡ p r
    skip true r h apart same = rw (other x r ints.0 h apart) same
    skip false r h apart same = same

    step : AllByRecursion (λ r. HasRowid r × (rowid x ≡ rowid r → ⊥)) rows
    step = all_both HasRowid (λ r. rowid x ≡ rowid r → ⊥) (λ r. HasRowid r × (rowid x ≡ rowid r → ⊥)) (λ r h a. (h, a)) rows ints.1 far

    later : AllByRecursion (λ r. list_any (λ id. has_rowid id r) (ids (filter p rows)) ≡ p r) rows → AllByRecursion (λ r. list_any (λ id. has_rowid id r) (ids (filter p (x ∷ rows))) ≡ p r) rows
    later more = all_both (λ r. HasRowid r × (rowid x ≡ rowid r → ⊥)) (λ r. list_any (λ id. has_rowid id r) (ids (filter p rows)) ≡ p r) (λ r. list_any (λ id. has_rowid id r) (ids (filter p (x ∷ rows))) ≡ p r) (λ r h same. skip (p x) r h.0 h.1 same) rows step more

-- the rows that match go, whatever the order that they were found in
pub leaves : (p : Row → Bool) (rows : List Row) (gone : List ℤ) → EachOnce (map rowid rows) → AllByRecursion HasRowid rows → IsPermutation (ids (filter p rows)) gone → without_all rows gone ≡ filter (λ r. not (p r)) rows
leaves p rows gone once ints same =
    gone_all gone rows
    ∙ filter_same (λ r. not (list_any (λ id. has_rowid id r) gone)) (λ r. not (p r)) rows
    (all_weaker (λ r. list_any (λ id. has_rowid id r) (ids (filter p rows)) ≡ p r) (λ r. not (list_any (λ id. has_rowid id r) gone) ≡ not (p r))
    (λ r at. ap not (sym (list_any-IsPermutation (λ id. has_rowid id r) (ids (filter p rows)) gone same) ∙ at)) rows (picked p rows once ints))

-- ---- what is found afterwards
pub find_gone : (p : Row → Bool) (rows : List Row) → find p (filter (λ r. not (p r)) rows) ≡ None
find_gone p [] = refl
find_gone p (r ∷ rows) = go (find_gone p rows) (p r) refl
  where
    go : find p (filter (λ r. not (p r)) rows) ≡ None → (b : Bool) → p r ≡ b → find p (cond (not b) (r ∷ filter (λ r. not (p r)) rows) (filter (λ r. not (p r)) rows)) ≡ None
    go more true e = more
    go more false e = rw e more

find_other : (p q : Row → Bool) → ((r : Row) → q r ≡ true → p r ≡ false) → (rows : List Row) → find q (filter (λ r. not (p r)) rows) ≡ find q rows
find_other p q apart [] = refl
find_other p q apart (r ∷ rows) = go (find_other p q apart rows) (q r) refl (p r) refl
  where
    go : find q (filter (λ r. not (p r)) rows) ≡ find q rows → (c : Bool) → q r ≡ c → (b : Bool) → p r ≡ b → find q (cond (not b) (r ∷ filter (λ r. not (p r)) rows) (filter (λ r. not (p r)) rows)) ≡ cond c (Some r) (find q rows)
    go more true e true f = absurd (let bad : true ≡ false = sym f ∙ apart r e in cc)
    go more true e false f = rw e refl
    go more false e true f = more
    go more false e false f = rw e more

module _ (q : Row → Bool) (new : Row) where
  find_beside : q new ≡ false → (rows : List Row) → is_taken rows new ≡ false → find q (put_row new rows) ≡ find q rows
  find_beside miss [] free = rw miss refl
  find_beside miss (r ∷ rows) free = go (find_beside miss rows (not_second _ _ free)) (value_cmp (rowid r) (rowid new)) refl
    where
      go : find q (put_row new rows) ≡ find q rows → (o : Ordering) → value_cmp (rowid r) (rowid new) ≡ o → find q (put_row new (r ∷ rows)) ≡ cond (q r) (Some r) (find q rows)
      go more Less e = rw e (ap (λ x. cond (q r) (Some r) x) more)
      go more Equal e = absurd (let bad : true ≡ false = rw e at (not_first (is_eq (value_cmp (rowid r) (rowid new))) (is_taken rows new) free) in cc)
      go more Greater e = rw e (rw miss refl)

  find_put : q new ≡ true → (rows : List Row) → is_taken rows new ≡ false → find q rows ≡ None → find q (put_row new rows) ≡ Some new
  find_put it [] free none = rw it refl
  find_put it (r ∷ rows) free none = go (find_put it rows (not_second _ _ free)) (value_cmp (rowid r) (rowid new)) refl (q r) refl
    where
      go : (find q rows ≡ None → find q (put_row new rows) ≡ Some new) → (o : Ordering) → value_cmp (rowid r) (rowid new) ≡ o → (b : Bool) → q r ≡ b → find q (put_row new (r ∷ rows)) ≡ Some new
      go more Less e true f = absurd (let bad : Some r ≡ None = rw f at none in cc)
      go more Less e false f = rw e (rw f (more (rw f at none)))
      go more Equal e b f = absurd (let bad : true ≡ false = rw e at (not_first (is_eq (value_cmp (rowid r) (rowid new))) (is_taken rows new) free) in cc)
      go more Greater e b f = rw e (rw it refl)

-- ---- each once
once_gone_member : {A : Type 0} (f : Row → A) (p : Row → Bool) (x : A) (rows : List Row) → Member x (map f (filter p rows)) → Member x (map f rows)
once_gone_member f p x [] m = m
once_gone_member f p x (r ∷ rows) m = go (once_gone_member f p x rows) (p r) m
  where
    go : (Member x (map f (filter p rows)) → Member x (map f rows)) → (b : Bool) → Member x (map f (cond b (r ∷ filter p rows) (filter p rows))) → Member x (map f (r ∷ rows))
    go more true (inl i) = inl i
    go more true (inr n) = inr (more n)
    go more false n = inr (more n)

pub once_gone : {A : Type 0} (f : Row → A) (p : Row → Bool) (rows : List Row) → EachOnce (map f rows) → EachOnce (map f (filter p rows))
once_gone f p [] h = tt
once_gone f p (r ∷ rows) h = go (once_gone f p rows h.1) (p r)
  where
    go : EachOnce (map f (filter p rows)) → (b : Bool) → EachOnce (map f (cond b (r ∷ filter p rows) (filter p rows)))
    go more true = (λ m. h.0 (once_gone_member f p (f r) rows m), more)
    go more false = more

not_taken : (new : Row) (rows : List Row) → is_taken rows new ≡ false → Member (rowid new) (map rowid rows) → ⊥
not_taken new [] free m = m
not_taken new (r ∷ rows) free (inl i) = let bad : true ≡ false = sym (tied_self (rowid new)) ∙ ap (λ v. is_eq (value_cmp v (rowid new))) i ∙ not_first (is_eq (value_cmp (rowid r) (rowid new))) (is_taken rows new) free in cc
not_taken new (r ∷ rows) free (inr m) = not_taken new rows (not_second _ _ free) m

pub once_put : {A : Type 0} (f : Row → A) (new : Row) (rows : List Row) → is_taken rows new ≡ false → (Member (f new) (map f rows) → ⊥) → EachOnce (map f rows) → EachOnce (map f (put_row new rows))
once_put f new rows free none h = inserted-once (f new) (map f rows) (map f (put_row new rows)) (put_inserts f new rows free) none h

pub numbered_put : (new : Row) (rows : List Row) → is_taken rows new ≡ false → EachOnce (map rowid rows) → EachOnce (map rowid (put_row new rows))
numbered_put new rows free h = once_put rowid new rows free (not_taken new rows free) h

-- ---- by keys
module _ {K A : Type 0} (same : K → K → Bool) (decides : (k l : K) → (same k l ≡ true → k ≡ l) × (k ≡ l → same k l ≡ true)) (key_in : Row → K) (value : Row → A) where
  abbrev pub at_key : K → Row → Bool
  at_key k r = same k (key_in r)

  abbrev pub told : List Row → K → Option A
  told rows l = option_map value (find (at_key l) rows)

  pub gone_told : (k l : K) (rows : List Row) → told (filter (λ r. not (at_key k r)) rows) l ≡ cond (same k l) None (told rows l)
  gone_told k l rows = elim (cases_Bool (same k l)) [
    | inl up ↦ (let is : k ≡ l = (decides k l).0 up in rw up (subst (λ j. told (filter (λ r. not (at_key k r)) rows) j ≡ None) is (ap (option_map value) (find_gone (at_key k) rows))))
    | inr down ↦ rw down (ap (option_map value) (find_other (at_key k) (at_key l) (λ r hit. elim (cases_Bool (at_key k r)) [
      | inl both ↦ absurd (let bad : true ≡ false = sym ((decides k l).1 ((decides k (key_in r)).0 both ∙ sym ((decides l (key_in r)).0 hit))) ∙ down in cc)
      | inr miss ↦ miss
    ]) rows))
  ]

  pub put_told : (k l : K) (new : Row) (rows : List Row) → key_in new ≡ k → is_taken rows new ≡ false → find (at_key k) rows ≡ None → told (put_row new rows) l ≡ cond (same k l) (Some (value new)) (told rows l)
  put_told k l new rows is free none = elim (cases_Bool (same k l)) [
    | inl up ↦ (let one : k ≡ l = (decides k l).0 up in
        rw up (subst (λ j. told (put_row new rows) j ≡ Some (value new)) one (ap (option_map value) (find_put (at_key k) new ((decides k (key_in new)).1 (sym is)) rows free none))))
    | inr down ↦ rw down (ap (option_map value) (find_beside (at_key l) new (elim (cases_Bool (at_key l new)) [
      | inl hit ↦ absurd (let bad : true ≡ false = sym ((decides k l).1 (sym is ∙ sym ((decides l (key_in new)).0 hit))) ∙ down in cc)
      | inr miss ↦ miss
    ]) rows free))
  ]

  pub absent : (k : K) (rows : List Row) → find (at_key k) rows ≡ None → Member k (map key_in rows) → ⊥
  absent k [] none m = m
  absent k (r ∷ rows) none m = go (absent k rows) (at_key k r) refl m
    where
      go : (find (at_key k) rows ≡ None → Member k (map key_in rows) → ⊥) → (b : Bool) → at_key k r ≡ b → Member k (map key_in (r ∷ rows)) → ⊥
      go more true e n = let bad : Some r ≡ None = rw e at none in cc
      go more false e (inl i) = let bad : true ≡ false = sym ((decides k (key_in r)).1 i) ∙ e in cc
      go more false e (inr n) = more (rw e at none) n

  -- ---- rows of a table with this key
  module _ (IsRow : Row → Type 0) where
    pub keyed_gone : (k : K) (rows : List Row) → AreKeyed IsRow key_in rows → AreKeyed IsRow key_in (filter (λ r. not (at_key k r)) rows)
    keyed_gone k rows h = record {
      each = all-filter IsRow (λ r. not (at_key k r)) rows h.each;
      ids = all-filter HasRowid (λ r. not (at_key k r)) rows h.ids;
      numbered = once_gone rowid (λ r. not (at_key k r)) rows h.numbered;
      once = once_gone key_in (λ r. not (at_key k r)) rows h.once;
    }

    pub keyed_put : (k : K) (new : Row) (rows : List Row) → key_in new ≡ k → IsRow new → HasRowid new → is_taken rows new ≡ false → find (at_key k) rows ≡ None → AreKeyed IsRow key_in rows → AreKeyed IsRow key_in (put_row new rows)
    keyed_put k new rows is one id free none h = record {
      each = all-put_row IsRow new rows one h.each;
      ids = all-put_row HasRowid new rows id h.ids;
      numbered = numbered_put new rows free h.numbered;
      once = once_put key_in new rows free (λ mem. absent k rows none (subst (λ j. Member j (map key_in rows)) is mem)) h.once;
    }
