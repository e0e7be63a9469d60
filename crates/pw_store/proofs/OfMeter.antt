-- The lists of a register's readings and of a meter's assignments.
use Rattle.std.proofs.Common.{◌≡◌, inl, inr, pos, List, [], ◌∷◌, map, Bool, true, ◌&&◌, Vec, Result, Ok, Err, IfOk, refl, sym, ap, subst, subst₂, ◌∙◌, nat_cmp}
use Rattle.std.proofs.lemmas.Bool.{cases_Bool, true≢false}
use Rattle.std.specs.List.{AllByRecursion, filter, list_all}
use Rattle.std.specs.List.Sorted.{IsPermutation}
use Rattle.std.specs.Ordering.{is_eq}
use Rattle.sqlite.specs.declared.types.Value.TheVariants.{Int}
use Rattle.sqlite.specs.declared.error.Error.{Error}
use Rattle.sqlite.specs.Order.{Row, column}
use Rattle.sqlite.specs.Term.{holds}
use Rattle.sqlite.specs.Query.{Output, output}
use Rattle.sqlite.specs.State.{State, Shown}
use Rattle.sqlite.specs.Tree.{Trees}
use Rattle.pw_obis.specs.declared.reference.Register.{Register}
use Rattle.pw_tariff.specs.declared.ids.MeterId.{MeterId}
use Rattle.pw_tariff.specs.Office.{register_place}
use Rattle.pw_model.specs.declared.records.Key.{Key}
use Rattle.pw_model.specs.declared.records.Key.TheVariants as key
use Rattle.pw_model.specs.declared.records.Entry.{Entry}
use Rattle.pw_model.specs.Counting.{Member, SameMembers}
use Rattle.pw_shelf.specs.Rows.{IsReadingOf, IsAssignmentOf}
use Rattle.pw_schema.specs.declared.kind.RecordKind.{RecordKind}
use Rattle.pw_schema.specs.declared.kind.RecordKind.TheVariants.{Readings, Assignments}
use Rattle.pw_schema.specs.Rows.{number, register_at}
use Rattle.pw_store.specs.Content.{reading_in, assignment_in, reading_tree, assignment_tree, records_of, tree_of, IsReadingRow, IsAssignmentRow, IsRowOf, entry_in}
use Rattle.pw_store.specs.Kept.{IsStore}
use Rattle.pw_store.specs.inner.Lists.{kind_at, shown, ShowsKept}
use Rattle.pw_schema.specs.Rows.{told, ReadsRows}
use Rattle.pw_store.proofs.Texts.{list_readings_text, list_readings_query, list_readings_is, list_assignments_text, list_assignments_query, list_assignments_is}
use Rattle.pw_store.proofs.Once.{permuted}
use Rattle.pw_store.proofs.Scans.{equal_ints, tied, scan_of}
use Rattle.pw_store.proofs.Lists.{seen, told_permuted}
use Rattle.pw_store.proofs.Finding.{first, second, same_number}
use Rattle.pw_store.proofs.OfKinds.{from_table, in_table}
use Rattle.pw_store.proofs.Adding.{register_back}

-- ---- the rows that pass are those whose record has such a key
module _ (f : Row → Entry) (p : Row → Bool) (IsRow : Row → Type 0) (Of : Key → Type 0)
    (hits : (r : Row) → IsRow r → p r ≡ true → Of (f r).key) (misses : (r : Row) → IsRow r → Of (f r).key → p r ≡ true) where
  kept : (rows : List Row) → AllByRecursion IsRow rows → (x : Entry) → Member x (map f (filter p rows)) → Member x (map f rows) × Of x.key
  kept [] all x m = absurd m
  kept (r ∷ rows) all x m = elim (cases_Bool (p r)) [
    | inl hit ↦ (let n : Member x (f r ∷ map f (filter p rows)) = rw hit at m in elim n [
      | inl i ↦ (inl i, subst (λ (e : Entry). Of e.key) (sym i) (hits r all.0 hit))
      | inr k ↦ (let rest = kept rows all.1 x k in (inr rest.0, rest.1))
    ])
    | inr miss ↦ (let n : Member x (map f (filter p rows)) = rw miss at m in let rest = kept rows all.1 x n in (inr rest.0, rest.1))
  ]

  keeps : (rows : List Row) → AllByRecursion IsRow rows → (x : Entry) → Member x (map f rows) → Of x.key → Member x (map f (filter p rows))
  keeps [] all x m of = m
  keeps (r ∷ rows) all x m of = elim (cases_Bool (p r)) [
    | inl hit ↦ rw hit (elim m [ inl i ↦ inl i | inr n ↦ inr (keeps rows all.1 x n of) ])
    | inr miss ↦ rw miss (elim m [
      | inl i ↦ absurd (true≢false (sym (misses r all.0 (subst (λ (e : Entry). Of e.key) i of)) ∙ miss))
      | inr n ↦ keeps rows all.1 x n of
    ])
  ]

  pub lists_kept : (records : List Entry) (table : List Row) (found : List Entry) → AllByRecursion IsRow table → ((x : Entry) → Member x records → Of x.key → Member x (map f table)) → ((x : Entry) → Member x (map f table) → Member x records)
      → SameMembers (map f (filter p table)) found → (x : Entry) → (Member x found → Member x records × Of x.key) × (Member x records × Of x.key → Member x found)
  lists_kept records table found all there back same x = (
    λ m. (let k = kept table all x ((same x).1 m) in (back x k.0, k.1)),
    λ h. (same x).0 (keeps table all x (there x h.0 h.1) h.1),
  )

found_same : (k : RecordKind) (p : Row → Bool) (table rows : List Row) (found : List Entry) → IsPermutation (map (shown k) (filter p table)) rows → ReadsRows k rows found → SameMembers (map (entry_in k) (filter p table)) found
found_same k p table rows found shows reads = subst (SameMembers (map (entry_in k) (filter p table))) (sym reads.are) (permuted _ (map (told k) rows) (told_permuted k (filter p table) rows shows))

-- the list of the records of a kind with such a key
shows_kept : (k : RecordKind) (Of : Key → Type 0) (passes : Row → Bool) → ((r : Row) → IsRowOf k r → passes r ≡ true → Of (entry_in k r).key) → ((r : Row) → IsRowOf k r → Of (entry_in k r).key → passes r ≡ true) → ((x : Key) → Of x → kind_at x ≡ k)
    → (db : Trees) (rows : List Row) → AllByRecursion (IsRowOf k) (db (tree_of k)) → IsPermutation (map (shown k) (filter passes (db (tree_of k)))) rows → ShowsKept k Of db rows
shows_kept k Of passes hits misses is_kind db rows each perm found reads = record {
  rising = reads.rising;
  members = lists_kept (entry_in k) passes (IsRowOf k) Of hits misses (records_of db) (db (tree_of k)) found each
      (λ x n of. in_table db x k (is_kind x.key of) n) (λ x n. from_table db x k n) (found_same k passes (db (tree_of k)) rows found perm reads);
}

-- ---- readings
module _ (m : MeterId) (g : Register) where
  abbrev params : Row
  params = Int (pos m.0) ∷ Int (pos (register_place g)) ∷ []

  abbrev pub passes_reading : Row → Bool
  passes_reading r = list_all (holds (params ∷ r ∷ [])) list_readings_query.filter

  tests : (r : Row) → IsReadingRow r → passes_reading r ≡ (is_eq (nat_cmp (number (column r 1)) m.0) && (is_eq (nat_cmp (number (column r 2)) (register_place g)) && true))
  tests r it = rw (it.0, it.1.0) (rw (equal_ints (number (column r 1)) m.0, equal_ints (register_place (register_at (number (column r 2)))) (register_place g)) refl)

  hits : (r : Row) → IsReadingRow r → passes_reading r ≡ true → IsReadingOf m g (reading_in r).key
  hits r it hit =
      let h = sym (tests r it) ∙ hit in
      let h1 = second (is_eq (nat_cmp (number (column r 1)) m.0)) _ h in
      let em = tied (number (column r 1)) m.0 (first _ _ h) in
      (λ j. record { 0 = em j }, ap register_at (tied (number (column r 2)) (register_place g) (first _ _ h1)) ∙ register_back g)

  misses : (r : Row) → IsReadingRow r → IsReadingOf m g (reading_in r).key → passes_reading r ≡ true
  misses r it of =
      let em : number (column r 1) ≡ m.0 = ap (λ (n : MeterId). n.0) of.0 in
      let eg : number (column r 2) ≡ register_place g = ap number it.1.0 ∙ ap register_place of.1 in
      tests r it ∙ rw (em, eg) (rw (same_number m.0, same_number (register_place g)) refl)

  shown_readings : (rows : List Row) → map (λ (o : Output). o.1) (map (output (scan_of 1 list_readings_query)) (map (λ r. params ∷ r ∷ []) rows)) ≡ map (shown Readings) rows
  shown_readings [] = refl
  shown_readings (r ∷ rows) = ap (λ xs. shown Readings r ∷ xs) (shown_readings rows)

  pub shows_readings_of : (old new : State) (rows : List Row) → IsStore old.now → Shown list_readings_text params old new rows → ShowsKept Readings (IsReadingOf m g) old.now.trees rows
  shows_readings_of old new rows store h =
      let table = old.now.trees reading_tree in
      let s = seen list_readings_text 1 list_readings_query list_readings_is params old new rows store.ours h in
      shows_kept Readings (IsReadingOf m g) passes_reading hits misses is_reading old.now.trees rows (store.rows Readings) (subst₂ IsPermutation (shown_readings (filter passes_reading table)) (sym s.2) s.1)
    where
      is_reading : (k : Key) → IsReadingOf m g k → kind_at k ≡ Readings
      is_reading (key.Reading n s t) of = refl
      is_reading (key.Assignment n t) of = absurd of
      is_reading (key.TopUp r) of = absurd of
      is_reading (key.Withdrawal w) of = absurd of

pub shows_readings_if : {Z : Type 0} (m : MeterId) (g : Register) (old new : State) (r : Result (Vec Row Z) Error) → IsStore old.now → IfOk r (λ rows. Shown list_readings_text (Int (pos m.0) ∷ Int (pos (register_place g)) ∷ []) old new rows.items) → IfOk r (λ rows. ShowsKept Readings (IsReadingOf m g) old.now.trees rows.items)
shows_readings_if m g old new (Ok rows) store h = shows_readings_of m g old new rows.items store h
shows_readings_if m g old new (Err e) store h = tt

-- ---- assignments
module _ (m : MeterId) where
  abbrev meter_params : Row
  meter_params = Int (pos m.0) ∷ []

  abbrev passes_assignment : Row → Bool
  passes_assignment r = list_all (holds (meter_params ∷ r ∷ [])) list_assignments_query.filter

  meter_tests : (r : Row) → IsAssignmentRow r → passes_assignment r ≡ (is_eq (nat_cmp (number (column r 1)) m.0) && true)
  meter_tests r it = rw (it.0) (rw (equal_ints (number (column r 1)) m.0) refl)

  meter_hits : (r : Row) → IsAssignmentRow r → passes_assignment r ≡ true → IsAssignmentOf m (assignment_in r).key
  meter_hits r it hit = let em = tied (number (column r 1)) m.0 (first _ _ (sym (meter_tests r it) ∙ hit)) in λ j. record { 0 = em j }

  meter_misses : (r : Row) → IsAssignmentRow r → IsAssignmentOf m (assignment_in r).key → passes_assignment r ≡ true
  meter_misses r it of = let em : number (column r 1) ≡ m.0 = ap (λ (n : MeterId). n.0) of in meter_tests r it ∙ rw em (rw (same_number m.0) refl)

  shown_assignments : (rows : List Row) → map (λ (o : Output). o.1) (map (output (scan_of 3 list_assignments_query)) (map (λ r. meter_params ∷ r ∷ []) rows)) ≡ map (shown Assignments) rows
  shown_assignments [] = refl
  shown_assignments (r ∷ rows) = ap (λ xs. shown Assignments r ∷ xs) (shown_assignments rows)

  pub shows_assignments_of : (old new : State) (rows : List Row) → IsStore old.now → Shown list_assignments_text meter_params old new rows → ShowsKept Assignments (IsAssignmentOf m) old.now.trees rows
  shows_assignments_of old new rows store h =
      let table = old.now.trees assignment_tree in
      let s = seen list_assignments_text 3 list_assignments_query list_assignments_is meter_params old new rows store.ours h in
      shows_kept Assignments (IsAssignmentOf m) passes_assignment meter_hits meter_misses is_assignment old.now.trees rows (store.rows Assignments) (subst₂ IsPermutation (shown_assignments (filter passes_assignment table)) (sym s.2) s.1)
    where
      is_assignment : (k : Key) → IsAssignmentOf m k → kind_at k ≡ Assignments
      is_assignment (key.Reading n s t) of = absurd of
      is_assignment (key.Assignment n t) of = refl
      is_assignment (key.TopUp r) of = absurd of
      is_assignment (key.Withdrawal w) of = absurd of

pub shows_assignments_if : {Z : Type 0} (m : MeterId) (old new : State) (r : Result (Vec Row Z) Error) → IsStore old.now → IfOk r (λ rows. Shown list_assignments_text (Int (pos m.0) ∷ []) old new rows.items) → IfOk r (λ rows. ShowsKept Assignments (IsAssignmentOf m) old.now.trees rows.items)
shows_assignments_if m old new (Ok rows) store h = shows_assignments_of m old new rows.items store h
shows_assignments_if m old new (Err e) store h = tt
