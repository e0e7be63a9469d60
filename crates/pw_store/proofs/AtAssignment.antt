-- What is told of the key of an assignment where some are withdrawn.
use Rattle.std.proofs.Common.{◌≡◌, ℕ, pos, List, [], ◌∷◌, map, Bool, true, false, not, ◌&&◌, Vec, Result, Ok, Err, IfOk, refl, sym, ap, subst, ◌∙◌, nat_cmp, arith}
use Rattle.std.specs.List.{AllByRecursion, filter}
use Rattle.std.specs.Ordering.{is_eq}
use Rattle.sqlite.specs.declared.types.Value.TheVariants.{Int}
use Rattle.sqlite.specs.declared.error.Error.{Error}
use Rattle.sqlite.specs.Order.{Row, column}
use Rattle.sqlite.specs.Query.{Output, output}
use Rattle.sqlite.specs.Ops.{binary, is_true}
use Rattle.sqlite_value.specs.declared.keys.Collation.TheVariants.{Binary}
use Rattle.sqlite_sql.specs.declared.ops.BinaryOp.TheVariants.{Compare}
use Rattle.sqlite_sql.specs.declared.ops.CompareOp.TheVariants.{Eq}
use Rattle.sqlite.specs.Program.{overlay}
use Rattle.sqlite.specs.Tree.{Trees}
use Rattle.sqlite.specs.State.{State, Shown}
use Rattle.pw_tariff.specs.declared.ids.MeterId.{MeterId}
use Rattle.pw_model.specs.declared.records.Key.TheVariants as key
use Rattle.pw_model.specs.declared.records.Entry.{Entry}
use Rattle.pw_model.specs.Counting.{contents_at, is_withdrawn}
use Rattle.pw_model.proofs.Counting.{entry}
use Rattle.pw_schema.specs.Rows.{number, owner_at, contents_of, told_content, withdrawal}
use Rattle.pw_schema.specs.declared.kind.RecordKind.TheVariants.{Assignments, WithdrawnAssignments}
use Rattle.pw_store.specs.Content.{records_of, assignment_in, assignment_tree, withdrawn_assignment_in, withdrawn_assignment_tree, IsAssignmentRow}
use Rattle.pw_store.specs.Kept.{IsStore}
use Rattle.pw_store.specs.inner.Records.{assignment_entry}
use Rattle.pw_store.proofs.Scans.{equal_ints, tied}
use Rattle.pw_store.proofs.Finding.{first, second, three_hold, same_number, meter_of, second_of, place_one, owner_in}
use Rattle.pw_store.specs.inner.Keys.{assignment_at_text}
use Rattle.pw_store.proofs.Texts.{assignment_at_query, assignment_at_is, three_ties}
use Rattle.pw_store.proofs.Lacking.{env_of, found, is_none, none_counted, passes, tied_to, whole}
use Rattle.pw_store.proofs.AtStanding.{none_tied_to, told_standing}

abbrev show_owner : Row → Row
show_owner r = column r 3 ∷ []

-- three tests in a row, of which the last stands alone
behind : (a b d a2 b2 d2 : Bool) → a ≡ a2 → b ≡ b2 → d ≡ d2 → (a && (b && (d && true))) ≡ ((a2 && b2) && d2)
behind a b d true true true ea eb ed = rw (ea, eb, ed) refl
behind a b d true true false ea eb ed = rw (ea, eb, ed) refl
behind a b d true false d2 ea eb ed = rw (ea, eb) refl
behind a b d false b2 d2 ea eb ed = rw ea refl

module _ (db : Trees) (m : MeterId) (i : ℕ) where
  abbrev params : Row
  params = Int (pos m.0) ∷ Int (pos i) ∷ []

  -- that the record of a row stands
  abbrev stands : Entry → Bool
  stands e = not (is_withdrawn (records_of db) e)

  -- that it is of the key
  abbrev of_key : Row → Bool
  of_key r = is_eq (nat_cmp (number (column r 1)) m.0) && is_eq (nat_cmp (number (column r 2)) i)

  hits : (r : Row) → IsAssignmentRow r → of_key r ≡ true → assignment_in r ≡ entry (key.Assignment m i) (told_content Assignments (show_owner r))
  hits r it hit =
      let em = tied (number (column r 1)) m.0 (first _ _ hit) in
      let ei = tied (number (column r 2)) i (second (is_eq (nat_cmp (number (column r 1)) m.0)) _ hit) in
      λ j. entry (key.Assignment (record { 0 = em j }) (ei j)) (told_content Assignments (show_owner r))

  misses : (r : Row) → IsAssignmentRow r → (assignment_in r).key ≡ key.Assignment m i → of_key r ≡ true
  misses r it same =
      let em : number (column r 1) ≡ m.0 = ap meter_of same in
      let ei : number (column r 2) ≡ i = ap second_of same in
      rw (em, ei) (rw (same_number m.0, same_number i) refl)

  -- the engine's test of a row
  abbrev passing : Row → Bool
  passing r = passes (overlay db []) withdrawn_assignment_tree three_ties params assignment_at_query.filter r

  abbrev tied_with : Row → Row → Bool
  tied_with r w = tied_to (overlay db []) withdrawn_assignment_tree three_ties params r w

  ties : (r w : Row) → IsAssignmentRow r → IsAssignmentRow w → tied_with r w ≡ (is_eq (nat_cmp (number (column w 1)) (number (column r 1))) && (is_eq (nat_cmp (number (column w 2)) (number (column r 2))) && (is_eq (nat_cmp (number (column w 3)) (number (column r 3))) && true)))
  ties r w it is =
      rw (it.0, it.1.0, it.1.1, is.0, is.1.0, is.1.1)
      (rw (equal_ints (number (column w 1)) (number (column r 1)), equal_ints (number (column w 2)) (number (column r 2)), equal_ints (number (column w 3)) (number (column r 3))) refl)

  -- a row of the withdrawals is tied to a row of the assignments where both are of one record
  each : (r : Row) → IsAssignmentRow r → (w : Row) → IsAssignmentRow w → (tied_with r w ≡ true → assignment_in w ≡ assignment_in r) × (assignment_in w ≡ assignment_in r → tied_with r w ≡ true)
  each r it w is = (
    λ hit.
        let h = three_hold (is_eq (nat_cmp (number (column w 1)) (number (column r 1)))) (is_eq (nat_cmp (number (column w 2)) (number (column r 2)))) (is_eq (nat_cmp (number (column w 3)) (number (column r 3)))) (sym (ties r w it is) ∙ hit) in
        λ j. assignment_entry (record { 0 = tied (number (column w 1)) (number (column r 1)) h.0 j }) (tied (number (column w 2)) (number (column r 2)) h.1 j) (owner_at (tied (number (column w 3)) (number (column r 3)) h.2 j)),
    λ same.
        let em : number (column w 1) ≡ number (column r 1) = ap (λ (x : Entry). meter_of x.key) same in
        let ei : number (column w 2) ≡ number (column r 2) = ap (λ (x : Entry). second_of x.key) same in
        let eo : number (column w 3) ≡ number (column r 3) = place_one (number (column w 3)) (owner_at (number (column r 3))) (ap (λ (x : Entry). owner_in x.content) same) ∙ sym (place_one (number (column r 3)) (owner_at (number (column r 3))) refl) in
        ties r w it is ∙ rw (em, ei, eo) (rw (same_number (number (column r 1)), same_number (number (column r 2)), same_number (number (column r 3))) refl),
  )

  none_is_tied : (r : Row) → IsAssignmentRow r → AllByRecursion IsAssignmentRow (db withdrawn_assignment_tree) → is_none (found (overlay db []) withdrawn_assignment_tree three_ties params r) ≡ stands (assignment_in r)
  none_is_tied r it all = none_tied_to Assignments WithdrawnAssignments three_ties params db r (λ w. refl) (λ w. refl) refl refl refl (each r it) all

  tests : (r : Row) → IsAssignmentRow r → AllByRecursion IsAssignmentRow (db withdrawn_assignment_tree) → passing r ≡ (of_key r && stands (assignment_in r))
  tests r it all =
      behind _ _ _ (is_eq (nat_cmp (number (column r 1)) m.0)) (is_eq (nat_cmp (number (column r 2)) i)) (stands (assignment_in r))
      (ap (λ v. is_true (binary (Compare Eq Binary) v (Int (pos m.0)))) it.0 ∙ equal_ints (number (column r 1)) m.0)
      (ap (λ v. is_true (binary (Compare Eq Binary) v (Int (pos i)))) it.1.0 ∙ equal_ints (number (column r 2)) i)
      (none_counted (found (overlay db []) withdrawn_assignment_tree three_ties params r) ∙ none_is_tied r it all)

  shown_owner : (rows : List Row) → map (λ (o : Output). o.1) (map (output (whole 3 16 three_ties assignment_at_query)) (map (env_of (overlay db []) withdrawn_assignment_tree three_ties params) rows)) ≡ map show_owner rows
  shown_owner [] = refl
  shown_owner (r ∷ rows) = ap (λ xs. show_owner r ∷ xs) (shown_owner rows)

pub assignment_told : (m : MeterId) (i : ℕ) (old new : State) (rows : List Row) → IsStore old.now → Shown assignment_at_text (params old.now.trees m i) old new rows
    → contents_of (map (told_content Assignments) rows) ≡ contents_at (records_of old.now.trees) (key.Assignment m i)
assignment_told m i old new rows store h =
    let db = old.now.trees in
    told_standing Assignments WithdrawnAssignments three_ties (params db m i) (key.Assignment m i) (of_key db m i) show_owner assignment_at_query assignment_at_text old new rows refl refl assignment_at_is (λ xs. refl) (hits db m i) (misses db m i)
    (λ r it. tests db m i r it (store.rows WithdrawnAssignments)) (shown_owner db m i) store h

pub assignment_told_if : {Z : Type 0} (m : MeterId) (i : ℕ) (old new : State) (r : Result (Vec Row Z) Error) → IsStore old.now → IfOk r (λ rows. Shown assignment_at_text (Int (pos m.0) ∷ Int (pos i) ∷ []) old new rows.items)
    → IfOk r (λ rows. contents_of (map (told_content Assignments) rows.items) ≡ contents_at (records_of old.now.trees) (key.Assignment m i))
assignment_told_if m i old new (Ok rows) store h = assignment_told m i old new rows.items store h
assignment_told_if m i old new (Err e) store h = tt
