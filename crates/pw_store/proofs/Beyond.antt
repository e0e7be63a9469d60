-- What the query for readings of a register from an instant on gives, where it shows no row.
use Rattle.std.proofs.Common.{◌≡◌, ◌≤◌, ◌&&◌, inl, inr, ℕ, pos, List, [], ◌∷◌, codes, take, length, Bool, true, false, cond, Ok, Err, Result, Vec, IfOk, Some, refl, sym, ap, ◌∙◌, nat_cmp, arith}
use Rattle.std.specs.List.{list_all, filter}
use Rattle.std.specs.Ordering.{is_eq}
use Rattle.std.proofs.lemmas.List.Sorted.{length_permutation}
use Rattle.sqlite.specs.declared.types.Value.TheVariants.{Int}
use Rattle.sqlite.specs.declared.error.Error.{Error}
use Rattle.sqlite.specs.Order.{Row, column}
use Rattle.sqlite.specs.Term.{lit, col, op2, holds}
use Rattle.sqlite.specs.Query.{Query}
use Rattle.sqlite.specs.State.{State, Shown}
use Rattle.sqlite.specs.Listing.{understood}
use Rattle.sqlite_value.specs.declared.keys.Collation.TheVariants.{Binary}
use Rattle.sqlite_sql.specs.declared.ops.BinaryOp.TheVariants.{Compare}
use Rattle.sqlite_sql.specs.declared.ops.CompareOp.TheVariants.{Ge}
use Rattle.sqlite_tied.specs.Compute.{everything}
use Rattle.pw_obis.specs.declared.reference.Register.{Register}
use Rattle.pw_tariff.specs.declared.ids.MeterId.{MeterId}
use Rattle.pw_tariff.specs.Office.{register_place}
use Rattle.pw_model.specs.declared.records.Entry.{Entry}
use Rattle.pw_model.specs.declared.records.Key.TheVariants as key
use Rattle.pw_model.specs.Counting.{Member}
use Rattle.pw_schema.specs.Rows.{number, register_at}
use Rattle.pw_schema.specs.declared.kind.RecordKind.TheVariants.{Readings}
use Rattle.pw_store.specs.Content.{IsReadingRow, entry_in, reading_in, records_of}
use Rattle.pw_store.specs.Frontier.{NoneFrom}
use Rattle.pw_store.specs.Kept.{IsStore}
use Rattle.pw_store.specs.inner.Lists.{kind_at}
use Rattle.pw_store.proofs.Finding.{meter_of, register_of, same_number, second_of, shown_many}
use Rattle.pw_store.proofs.KeyedRows.{before_map}
use Rattle.pw_store.proofs.Lists.{seen}
use Rattle.pw_store.proofs.Neighbours.{all_member, is_at_least, least_ints, is_least}
use Rattle.pw_store.proofs.OfKinds.{in_table}
use Rattle.pw_store.proofs.Scans.{equal_ints}
use Rattle.pw_store.proofs.Texts.{IsQuery, eq, plain_query}

abbrev pub later_text : List ℕ
later_text = codes "SELECT wh FROM record_reading WHERE meter = ?1 AND register = ?2 AND instant >= ?3 LIMIT 1"

abbrev pub later_query : Query
later_query = record (plain_query 1 (eq 1 0 ∷ eq 2 1 ∷ op2 (Compare Ge Binary) (col 1 3) (col 0 2) ∷ []) (col 1 4 ∷ [])) { limit = lit (Int (pos 1)) }

pub later_is : IsQuery later_text later_query
unfolding understood everything
later_is = record { names = codes "wh" ∷ []; is = λ checks. refl; unlisted = λ checks. refl; plain = λ checks. (refl, refl) }

none_taken : {X : Type 0} (xs : List X) → length (take 1 xs) ≡ 0 → length xs ≡ 0
none_taken [] few = refl
none_taken (x ∷ xs) few = absurd (omega (arith, few))

none_passes : (p : Row → Bool) (rows : List Row) (r : Row) → length (filter p rows) ≡ 0 → Member r rows → p r ≡ true → ⊥
none_passes p [] r few m hit = m
none_passes p (y ∷ rows) r few (inl e) hit =
    let up : p y ≡ true = ap p (sym e) ∙ hit in
    omega (arith, rw up at few)
none_passes p (y ∷ rows) r few (inr m) hit = elim (p y) as (λ b. length (cond b (y ∷ filter p rows) (filter p rows)) ≡ 0 → ⊥) [
  | true ↦ λ some. omega (arith, some)
  | false ↦ λ none. none_passes p rows r none m hit
] few

module _ (m : MeterId) (g : Register) (t : ℕ) where
  abbrev pub asked : Row
  asked = Int (pos m.0) ∷ Int (pos (register_place g)) ∷ Int (pos t) ∷ []

  abbrev passes : Row → Bool
  passes r = list_all (holds (asked ∷ r ∷ [])) later_query.filter

  tests : (r : Row) → IsReadingRow r → passes r ≡ (is_eq (nat_cmp (number (column r 1)) m.0) && (is_eq (nat_cmp (number (column r 2)) (register_place g)) && (is_least (nat_cmp (number (column r 3)) t) && true)))
  tests r it = rw (it.0, it.1.0, it.1.1.0) (rw (equal_ints (number (column r 1)) m.0, equal_ints (register_place (register_at (number (column r 2)))) (register_place g), least_ints (number (column r 3)) t) refl)

  reached : (r : Row) (u : ℕ) → IsReadingRow r → t ≤ u → (reading_in r).key ≡ key.Reading m g u → passes r ≡ true
  reached r u it high e =
      let em : number (column r 1) ≡ m.0 = ap meter_of e in
      let eg : number (column r 2) ≡ register_place g = ap number it.1.0 ∙ ap register_place (ap register_of e) in
      let eu : number (column r 3) ≡ u = ap second_of e in
      tests r it ∙ rw (em, eg, eu) (rw (same_number m.0, same_number (register_place g), is_at_least u t high) refl)

  none_later : (old new : State) (rows : List Row) → IsStore old.now → Shown later_text asked old new rows → length rows ≡ 0 → NoneFrom m g (Some t) (records_of old.now.trees)
  none_later old new rows store h few e u member is high =
      let table = old.now.trees 1 in
      let s = seen later_text 1 later_query later_is asked old new rows store.ours h in
      let none = none_taken _ (sym (ap length s.2) ∙ few) in
      let same = length_permutation _ _ s.1 in
      let many = shown_many later_query 1 asked table in
      let passed : length (filter passes table) ≡ 0 = omega (arith, none, same, many) in
      let it = before_map (entry_in Readings) e table (in_table old.now.trees e Readings (ap kind_at is) member) in
      none_passes passes table it.0 passed it.1.0 (reached it.0 u (all_member IsReadingRow table it.0 (store.rows Readings) it.1.0) high (ap (λ (x : Entry). x.key) (sym it.1.1) ∙ is))

pub none_later_if : {Z : Type 0} (old new : State) (m : MeterId) (g : Register) (t : ℕ) (out : Result (Vec Row Z) Error) → IsStore old.now → IfOk out (λ rows. Shown later_text (asked m g t) old new rows.items)
    → IfOk out (λ rows. length rows.items ≡ 0 → NoneFrom m g (Some t) (records_of old.now.trees))
none_later_if old new m g t (Ok rows) store h = none_later m g t old new rows.items store h
none_later_if old new m g t (Err e) store h = tt
