-- What is told of the key of a top-up where some are withdrawn.
use Rattle.std.proofs.Common.{◌≡◌, ℕ, List, [], ◌∷◌, map, Bool, true, false, not, ◌&&◌, Vec, Result, Ok, Err, IfOk, refl, sym, ap, subst, ◌∙◌, nat_cmp, arith}
use Rattle.std.specs.List.{AllByRecursion, filter}
use Rattle.std.specs.Ordering.{is_eq}
use Rattle.sqlite.specs.declared.types.Value.TheVariants.{Text}
use Rattle.sqlite.specs.declared.error.Error.{Error}
use Rattle.sqlite.specs.Order.{Row, column}
use Rattle.sqlite.specs.Query.{Output, output}
use Rattle.sqlite.specs.Ops.{binary, is_true}
use Rattle.sqlite_value.specs.declared.keys.Collation.TheVariants.{Binary}
use Rattle.sqlite_sql.specs.declared.ops.BinaryOp.TheVariants.{Compare}
use Rattle.sqlite_sql.specs.declared.ops.CompareOp.TheVariants.{Eq}
use Rattle.sqlite.specs.Program.{overlay}
use Rattle.sqlite.specs.Tree.{Trees}
use Rattle.sqlite.specs.State.{State, Shown}
use Rattle.std.specs.Cmp.Lexicographic.{slice_cmp}
use Rattle.pw_model.specs.declared.records.Key.TheVariants as key
use Rattle.pw_model.specs.declared.records.Entry.{Entry}
use Rattle.pw_model.specs.Counting.{contents_at, is_withdrawn}
use Rattle.pw_model.proofs.Counting.{entry}
use Rattle.pw_schema.specs.Rows.{number, text, contents_of, told_content, withdrawal}
use Rattle.pw_schema.specs.declared.kind.RecordKind.TheVariants.{TopUps, WithdrawnTopUps}
use Rattle.pw_store.specs.Content.{records_of, topup_in, topup_tree, withdrawn_topup_in, withdrawn_topup_tree, IsTopupRow}
use Rattle.pw_store.specs.Kept.{IsStore}
use Rattle.pw_store.specs.inner.Records.{topup_entry}
use Rattle.pw_store.proofs.Scans.{equal_ints, equal_texts, tied}
use Rattle.pw_store.proofs.Finding.{four_hold, same_number, same_text, texts_tied, reference_of, number_in}
use Rattle.pw_store.specs.inner.Keys.{topup_at_text}
use Rattle.pw_store.proofs.Texts.{topup_at_query, topup_at_is, four_ties}
use Rattle.pw_store.proofs.Lacking.{env_of, found, is_none, none_counted, passes, tied_to, whole}
use Rattle.pw_store.proofs.AtStanding.{none_tied_to, told_standing}

abbrev show : Row → Row
show r = column r 2 ∷ column r 3 ∷ column r 4 ∷ []

-- two tests in a row, of which the last stands alone
behind : (a d a2 d2 : Bool) → a ≡ a2 → d ≡ d2 → (a && (d && true)) ≡ (a2 && d2)
behind a d true true ea ed = rw (ea, ed) refl
behind a d true false ea ed = rw (ea, ed) refl
behind a d false d2 ea ed = rw ea refl

module _ (db : Trees) (t : List ℕ) where
  abbrev params : Row
  params = Text t ∷ []

  -- that the record of a row stands
  abbrev stands : Entry → Bool
  stands e = not (is_withdrawn (records_of db) e)

  -- that it is of the key
  abbrev of_key : Row → Bool
  of_key r = is_eq (slice_cmp nat_cmp (text (column r 1)) t)

  hits : (r : Row) → IsTopupRow r → of_key r ≡ true → topup_in r ≡ entry (key.TopUp t) (told_content TopUps (show r))
  hits r it hit = ap (λ s. entry (key.TopUp s) (told_content TopUps (show r))) (texts_tied (text (column r 1)) t hit)

  misses : (r : Row) → IsTopupRow r → (topup_in r).key ≡ key.TopUp t → of_key r ≡ true
  misses r it same = let et : text (column r 1) ≡ t = ap reference_of same in rw et (same_text t)

  -- the engine's test of a row
  abbrev passing : Row → Bool
  passing r = passes (overlay db []) withdrawn_topup_tree four_ties params topup_at_query.filter r

  abbrev tied_with : Row → Row → Bool
  tied_with r w = tied_to (overlay db []) withdrawn_topup_tree four_ties params r w

  ties : (r w : Row) → IsTopupRow r → IsTopupRow w → tied_with r w ≡ (is_eq (slice_cmp nat_cmp (text (column w 1)) (text (column r 1))) && (is_eq (nat_cmp (number (column w 2)) (number (column r 2))) && (is_eq (nat_cmp (number (column w 3)) (number (column r 3))) && (is_eq (nat_cmp (number (column w 4)) (number (column r 4))) && true))))
  ties r w it is =
      rw (it.0, it.1.0, it.1.1.0, it.1.1.1, is.0, is.1.0, is.1.1.0, is.1.1.1)
      (rw (equal_texts (text (column w 1)) (text (column r 1)), equal_ints (number (column w 2)) (number (column r 2)), equal_ints (number (column w 3)) (number (column r 3)), equal_ints (number (column w 4)) (number (column r 4))) refl)

  -- a row of the withdrawals is tied to a row of the top-ups where both are of one record
  each : (r : Row) → IsTopupRow r → (w : Row) → IsTopupRow w → (tied_with r w ≡ true → topup_in w ≡ topup_in r) × (topup_in w ≡ topup_in r → tied_with r w ≡ true)
  each r it w is = (
    λ hit.
        let h = four_hold (is_eq (slice_cmp nat_cmp (text (column w 1)) (text (column r 1)))) (is_eq (nat_cmp (number (column w 2)) (number (column r 2)))) (is_eq (nat_cmp (number (column w 3)) (number (column r 3)))) (is_eq (nat_cmp (number (column w 4)) (number (column r 4)))) (sym (ties r w it is) ∙ hit) in
        λ j. topup_entry (texts_tied (text (column w 1)) (text (column r 1)) h.0 j) (record { 0 = tied (number (column w 2)) (number (column r 2)) h.1 j }) (tied (number (column w 3)) (number (column r 3)) h.2 j) (tied (number (column w 4)) (number (column r 4)) h.3 j),
    λ same.
        let et : text (column w 1) ≡ text (column r 1) = ap (λ (x : Entry). reference_of x.key) same in
        let ea : number (column w 2) ≡ number (column r 2) = ap (λ (x : Entry). number_in 0 x.content) same in
        let ec : number (column w 3) ≡ number (column r 3) = ap (λ (x : Entry). number_in 1 x.content) same in
        let ei : number (column w 4) ≡ number (column r 4) = ap (λ (x : Entry). number_in 2 x.content) same in
        ties r w it is ∙ rw (et, ea, ec, ei) (rw (same_text (text (column r 1)), same_number (number (column r 2)), same_number (number (column r 3)), same_number (number (column r 4))) refl),
  )

  none_is_tied : (r : Row) → IsTopupRow r → AllByRecursion IsTopupRow (db withdrawn_topup_tree) → is_none (found (overlay db []) withdrawn_topup_tree four_ties params r) ≡ stands (topup_in r)
  none_is_tied r it all = none_tied_to TopUps WithdrawnTopUps four_ties params db r (λ w. refl) (λ w. refl) refl refl refl (each r it) all

  tests : (r : Row) → IsTopupRow r → AllByRecursion IsTopupRow (db withdrawn_topup_tree) → passing r ≡ (of_key r && stands (topup_in r))
  tests r it all =
      behind _ _ (is_eq (slice_cmp nat_cmp (text (column r 1)) t)) (stands (topup_in r))
      (ap (λ v. is_true (binary (Compare Eq Binary) v (Text t))) it.0 ∙ equal_texts (text (column r 1)) t)
      (none_counted (found (overlay db []) withdrawn_topup_tree four_ties params r) ∙ none_is_tied r it all)

  shown_all : (rows : List Row) → map (λ (o : Output). o.1) (map (output (whole 5 18 four_ties topup_at_query)) (map (env_of (overlay db []) withdrawn_topup_tree four_ties params) rows)) ≡ map show rows
  shown_all [] = refl
  shown_all (r ∷ rows) = ap (λ xs. show r ∷ xs) (shown_all rows)

pub topup_told : (t : List ℕ) (old new : State) (rows : List Row) → IsStore old.now → Shown topup_at_text (params old.now.trees t) old new rows
    → contents_of (map (told_content TopUps) rows) ≡ contents_at (records_of old.now.trees) (key.TopUp t)
topup_told t old new rows store h =
    let db = old.now.trees in
    told_standing TopUps WithdrawnTopUps four_ties (params db t) (key.TopUp t) (of_key db t) show topup_at_query topup_at_text old new rows refl refl topup_at_is (λ xs. refl) (hits db t) (misses db t)
    (λ r it. tests db t r it (store.rows WithdrawnTopUps)) (shown_all db t) store h

pub topup_told_if : {Z : Type 0} (t : List ℕ) (old new : State) (r : Result (Vec Row Z) Error) → IsStore old.now → IfOk r (λ rows. Shown topup_at_text (Text t ∷ []) old new rows.items)
    → IfOk r (λ rows. contents_of (map (told_content TopUps) rows.items) ≡ contents_at (records_of old.now.trees) (key.TopUp t))
topup_told_if t old new (Ok rows) store h = topup_told t old new rows.items store h
topup_told_if t old new (Err e) store h = tt
