-- What is told of the key of a reading where some are withdrawn.
use Rattle.std.proofs.Common.{◌≡◌, ℕ, pos, List, [], ◌∷◌, map, Bool, true, false, not, ◌&&◌, Vec, Result, Ok, Err, IfOk, refl, sym, ap, subst, ◌∙◌, nat_cmp, arith}
use Rattle.std.specs.List.{AllByRecursion, filter}
use Rattle.std.specs.Ordering.{is_eq}
use Rattle.sqlite.specs.declared.types.Value.TheVariants.{Int}
use Rattle.sqlite.specs.declared.error.Error.{Error}
use Rattle.sqlite.specs.Order.{Row, column}
use Rattle.sqlite.specs.Query.{Output, output}
use Rattle.sqlite.specs.Ops.{binary, is_true}
use Rattle.sqlite_value.specs.declared.keys.Collation.TheVariants.{Binary}
use Rattle.sqlite_sql.specs.declared.ops.BinaryOp.TheVariants.{Compare}
use Rattle.sqlite_sql.specs.declared.ops.CompareOp.TheVariants.{Eq}
use Rattle.sqlite.specs.Program.{overlay}
use Rattle.sqlite.specs.Tree.{Trees}
use Rattle.sqlite.specs.State.{State, Shown}
use Rattle.pw_obis.specs.declared.reference.Register.{Register}
use Rattle.pw_tariff.specs.declared.ids.MeterId.{MeterId}
use Rattle.pw_tariff.specs.Office.{register_place}
use Rattle.pw_model.specs.declared.records.Key.TheVariants as key
use Rattle.pw_model.specs.declared.records.Entry.{Entry}
use Rattle.pw_model.specs.Counting.{contents_at, is_withdrawn}
use Rattle.pw_model.proofs.Counting.{entry}
use Rattle.pw_schema.specs.Rows.{number, register_at, contents_of, told_content, withdrawal}
use Rattle.pw_schema.specs.declared.kind.RecordKind.TheVariants.{Readings, WithdrawnReadings}
use Rattle.pw_store.specs.Content.{records_of, reading_in, reading_tree, withdrawn_reading_in, withdrawn_reading_tree, IsReadingRow}
use Rattle.pw_store.specs.Kept.{IsStore}
use Rattle.pw_store.specs.inner.Records.{reading_entry}
use Rattle.pw_store.proofs.Scans.{equal_ints, tied}
use Rattle.pw_store.proofs.Finding.{first, second, four_hold, same_number, meter_of, register_of, second_of, wh_in}
use Rattle.pw_store.proofs.Adding.{register_back}
use Rattle.pw_store.specs.inner.Keys.{reading_at_text}
use Rattle.pw_store.proofs.Texts.{reading_at_query, reading_at_is, four_ties}
use Rattle.pw_store.proofs.Lacking.{env_of, found, is_none, none_counted, passes, tied_to, whole}
use Rattle.pw_store.proofs.AtStanding.{none_tied_to, told_standing}

abbrev show_wh : Row → Row
show_wh r = column r 4 ∷ []

-- four tests in a row, of which the last stands alone
behind : (a b c d a2 b2 c2 d2 : Bool) → a ≡ a2 → b ≡ b2 → c ≡ c2 → d ≡ d2 → (a && (b && (c && (d && true)))) ≡ ((a2 && (b2 && c2)) && d2)
behind a b c d true true true true ea eb ec ed = rw (ea, eb, ec, ed) refl
behind a b c d true true true false ea eb ec ed = rw (ea, eb, ec, ed) refl
behind a b c d true true false d2 ea eb ec ed = rw (ea, eb, ec) refl
behind a b c d true false c2 d2 ea eb ec ed = rw (ea, eb) refl
behind a b c d false b2 c2 d2 ea eb ec ed = rw ea refl

module _ (db : Trees) (m : MeterId) (g : Register) (i : ℕ) where
  abbrev params : Row
  params = Int (pos m.0) ∷ Int (pos (register_place g)) ∷ Int (pos i) ∷ []

  -- that the record of a row stands
  abbrev stands : Entry → Bool
  stands e = not (is_withdrawn (records_of db) e)

  -- that it is of the key
  abbrev of_key : Row → Bool
  of_key r = is_eq (nat_cmp (number (column r 1)) m.0) && (is_eq (nat_cmp (number (column r 2)) (register_place g)) && is_eq (nat_cmp (number (column r 3)) i))

  hits : (r : Row) → IsReadingRow r → of_key r ≡ true → reading_in r ≡ entry (key.Reading m g i) (told_content Readings (show_wh r))
  hits r it hit =
      let h1 = second (is_eq (nat_cmp (number (column r 1)) m.0)) _ hit in
      let em = tied (number (column r 1)) m.0 (first _ _ hit) in
      let eg = ap register_at (tied (number (column r 2)) (register_place g) (first _ _ h1)) ∙ register_back g in
      let ei = tied (number (column r 3)) i (second (is_eq (nat_cmp (number (column r 2)) (register_place g))) _ h1) in
      λ j. entry (key.Reading (record { 0 = em j }) (eg j) (ei j)) (told_content Readings (show_wh r))

  misses : (r : Row) → IsReadingRow r → (reading_in r).key ≡ key.Reading m g i → of_key r ≡ true
  misses r it same =
      let em : number (column r 1) ≡ m.0 = ap meter_of same in
      let eg : number (column r 2) ≡ register_place g = ap number it.1.0 ∙ ap register_place (ap register_of same) in
      let ei : number (column r 3) ≡ i = ap second_of same in
      rw (em, eg, ei) (rw (same_number m.0, same_number (register_place g), same_number i) refl)

  -- the engine's test of a row
  abbrev passing : Row → Bool
  passing r = passes (overlay db []) withdrawn_reading_tree four_ties params reading_at_query.filter r

  abbrev tied_with : Row → Row → Bool
  tied_with r w = tied_to (overlay db []) withdrawn_reading_tree four_ties params r w

  ties : (r w : Row) → IsReadingRow r → IsReadingRow w → tied_with r w ≡ (is_eq (nat_cmp (number (column w 1)) (number (column r 1))) && (is_eq (nat_cmp (number (column w 2)) (number (column r 2))) && (is_eq (nat_cmp (number (column w 3)) (number (column r 3))) && (is_eq (nat_cmp (number (column w 4)) (number (column r 4))) && true))))
  ties r w it is =
      rw (it.0, it.1.0, it.1.1.0, it.1.1.1, is.0, is.1.0, is.1.1.0, is.1.1.1)
      (rw (equal_ints (number (column w 1)) (number (column r 1)), equal_ints (register_place (register_at (number (column w 2)))) (register_place (register_at (number (column r 2)))), equal_ints (number (column w 3)) (number (column r 3)), equal_ints (number (column w 4)) (number (column r 4))) refl)

  -- a row of the withdrawals is tied to a row of the readings where both are of one record
  each : (r : Row) → IsReadingRow r → (w : Row) → IsReadingRow w → (tied_with r w ≡ true → reading_in w ≡ reading_in r) × (reading_in w ≡ reading_in r → tied_with r w ≡ true)
  each r it w is = (
    λ hit.
        let h = four_hold (is_eq (nat_cmp (number (column w 1)) (number (column r 1)))) (is_eq (nat_cmp (number (column w 2)) (number (column r 2)))) (is_eq (nat_cmp (number (column w 3)) (number (column r 3)))) (is_eq (nat_cmp (number (column w 4)) (number (column r 4)))) (sym (ties r w it is) ∙ hit) in
        λ j. reading_entry (record { 0 = tied (number (column w 1)) (number (column r 1)) h.0 j }) (register_at (tied (number (column w 2)) (number (column r 2)) h.1 j)) (tied (number (column w 3)) (number (column r 3)) h.2 j) (tied (number (column w 4)) (number (column r 4)) h.3 j),
    λ same.
        let em : number (column w 1) ≡ number (column r 1) = ap (λ (x : Entry). meter_of x.key) same in
        let eg : number (column w 2) ≡ number (column r 2) = ap number is.1.0 ∙ ap register_place (ap (λ (x : Entry). register_of x.key) same) ∙ sym (ap number it.1.0) in
        let ei : number (column w 3) ≡ number (column r 3) = ap (λ (x : Entry). second_of x.key) same in
        let ev : number (column w 4) ≡ number (column r 4) = ap (λ (x : Entry). wh_in x.content) same in
        ties r w it is ∙ rw (em, eg, ei, ev) (rw (same_number (number (column r 1)), same_number (number (column r 2)), same_number (number (column r 3)), same_number (number (column r 4))) refl),
  )

  none_is_tied : (r : Row) → IsReadingRow r → AllByRecursion IsReadingRow (db withdrawn_reading_tree) → is_none (found (overlay db []) withdrawn_reading_tree four_ties params r) ≡ stands (reading_in r)
  none_is_tied r it all = none_tied_to Readings WithdrawnReadings four_ties params db r (λ w. refl) (λ w. refl) refl refl refl (each r it) all

  tests : (r : Row) → IsReadingRow r → AllByRecursion IsReadingRow (db withdrawn_reading_tree) → passing r ≡ (of_key r && stands (reading_in r))
  tests r it all =
      let last = none_counted (found (overlay db []) withdrawn_reading_tree four_ties params r) ∙ none_is_tied r it all in
      behind _ _ _ _ (is_eq (nat_cmp (number (column r 1)) m.0)) (is_eq (nat_cmp (number (column r 2)) (register_place g))) (is_eq (nat_cmp (number (column r 3)) i)) (stands (reading_in r))
      (ap (λ v. is_true (binary (Compare Eq Binary) v (Int (pos m.0)))) it.0 ∙ equal_ints (number (column r 1)) m.0)
      (ap (λ v. is_true (binary (Compare Eq Binary) v (Int (pos (register_place g))))) it.1.0 ∙ equal_ints (register_place (register_at (number (column r 2)))) (register_place g) ∙ ap (λ n. is_eq (nat_cmp n (register_place g))) (sym (ap number it.1.0)))
      (ap (λ v. is_true (binary (Compare Eq Binary) v (Int (pos i)))) it.1.1.0 ∙ equal_ints (number (column r 3)) i)
      last

  shown_wh : (rows : List Row) → map (λ (o : Output). o.1) (map (output (whole 1 14 four_ties reading_at_query)) (map (env_of (overlay db []) withdrawn_reading_tree four_ties params) rows)) ≡ map show_wh rows
  shown_wh [] = refl
  shown_wh (r ∷ rows) = ap (λ xs. show_wh r ∷ xs) (shown_wh rows)

pub reading_told : (m : MeterId) (g : Register) (i : ℕ) (old new : State) (rows : List Row) → IsStore old.now → Shown reading_at_text (params old.now.trees m g i) old new rows
    → contents_of (map (told_content Readings) rows) ≡ contents_at (records_of old.now.trees) (key.Reading m g i)
reading_told m g i old new rows store h =
    let db = old.now.trees in
    told_standing Readings WithdrawnReadings four_ties (params db m g i) (key.Reading m g i) (of_key db m g i) show_wh reading_at_query reading_at_text old new rows refl refl reading_at_is (λ xs. refl) (hits db m g i) (misses db m g i)
    (λ r it. tests db m g i r it (store.rows WithdrawnReadings)) (shown_wh db m g i) store h

pub reading_told_if : {Z : Type 0} (m : MeterId) (g : Register) (i : ℕ) (old new : State) (r : Result (Vec Row Z) Error) → IsStore old.now → IfOk r (λ rows. Shown reading_at_text (Int (pos m.0) ∷ Int (pos (register_place g)) ∷ Int (pos i) ∷ []) old new rows.items)
    → IfOk r (λ rows. contents_of (map (told_content Readings) rows.items) ≡ contents_at (records_of old.now.trees) (key.Reading m g i))
reading_told_if m g i old new (Ok rows) store h = reading_told m g i old new rows.items store h
reading_told_if m g i old new (Err e) store h = tt
