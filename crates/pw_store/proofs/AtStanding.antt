-- What is told of a key where some records are withdrawn, whatever the kind of the records is.
use Rattle.std.proofs.Common.{◌≡◌, ℕ, List, [], length, map, take, true, Bool, not, ◌&&◌, ap, subst, ◌∙◌, arith}
use Rattle.std.specs.List.{AllByRecursion, filter}
use Rattle.std.specs.List.Sorted.{IsPermutation}
use Rattle.sqlite.specs.Order.{Row}
use Rattle.sqlite.specs.Query.{Output, Query, output, page}
use Rattle.sqlite.specs.Program.{overlay}
use Rattle.sqlite.specs.State.{State, Shown}
use Rattle.sqlite.specs.Term.{Term}
use Rattle.sqlite.specs.Tree.{Trees}
use Rattle.pw_model.specs.declared.records.Entry.{Entry}
use Rattle.pw_model.specs.declared.records.Key.{Key}
use Rattle.pw_model.specs.declared.records.Named.{Named}
use Rattle.pw_model.specs.Counting.{contents_at, is_withdrawn}
use Rattle.pw_model.proofs.Counting.{entry}
use Rattle.pw_schema.specs.Rows.{contents_of, told_content, withdrawal}
use Rattle.pw_schema.specs.declared.kind.RecordKind.{RecordKind}
use Rattle.pw_store.specs.Content.{IsRowOf, entry_in, records_of, tree_of}
use Rattle.pw_store.specs.Kept.{IsStore}
use Rattle.pw_store.specs.inner.Lists.{kind_at}
use Rattle.pw_store.proofs.Finding.{each_named, member_some, name_of, named_by, some_member, withdrawn_as}
use Rattle.pw_store.proofs.Lacking.{env_of, found, found_is, is_none, passes, seen, tied_to, whole}
use Rattle.pw_store.proofs.OfKinds.{from_table, in_table}
use Rattle.pw_store.proofs.Standing.{all_filtered, both_stand, filter_both, none_tied, once_stand}
use Rattle.pw_store.proofs.Telling.{told_at}
use Rattle.pw_store.proofs.Texts.{IsQuery}

-- records of a kind, those in which they are withdrawn, and the terms that tie the rows of the two
module _ (k j : RecordKind) (ties : List Term) (params : Row) (db : Trees) where
  -- no row of the withdrawals is tied to a row exactly where its record stands
  pub none_tied_to : (r : Row) → ((w : Row) → withdrawn_as (entry_in k w) ≡ entry_in j w) → ((w : Row) → named_by (entry_in j w) ≡ entry_in k w) → named_by (withdrawn_as (entry_in k r)) ≡ entry_in k r →
      kind_at (withdrawn_as (entry_in k r)).key ≡ j → overlay db [] (tree_of j) ≡ db (tree_of j) →
      ((w : Row) → IsRowOf k w → (tied_to (overlay db []) (tree_of j) ties params r w ≡ true → entry_in k w ≡ entry_in k r) × (entry_in k w ≡ entry_in k r → tied_to (overlay db []) (tree_of j) ties params r w ≡ true)) →
      AllByRecursion (IsRowOf k) (db (tree_of j)) → is_none (found (overlay db []) (tree_of j) ties params r) ≡ not (is_withdrawn (records_of db) (entry_in k r))
  none_tied_to r named by back at own each all =
      let e = entry_in k r in
      let tied : Row → Bool = tied_to (overlay db []) (tree_of j) ties params r in
      let n : Named = name_of e.key e.content in
      let one = each_named k j (IsRowOf k) tied e named by back each in
      let many = found_is (overlay db []) (tree_of j) ties params r ∙ ap (λ (rows : List Row). length (filter tied rows)) own in
      none_tied db n (found (overlay db []) (tree_of j) ties params r)
      (λ lt. from_table db (withdrawal n) j (some_member (entry_in j) tied (IsRowOf k) (withdrawal n) one (db (tree_of j)) all (omega (arith, lt, many))))
      (λ m. (let lt = member_some (entry_in j) tied (IsRowOf k) (withdrawal n) one (db (tree_of j)) all (in_table db (withdrawal n) j at m) in omega (arith, lt, many)))
      ∙ ap (λ (x : Entry). not (is_withdrawn (records_of db) x)) back

-- the rows that are shown tell what the records tell
pub told_standing : (k j : RecordKind) (ties : List Term) (params : Row) (at : Key) (of_key : Row → Bool) (show : Row → Row) (q : Query) (text : List ℕ) (old new : State) (rows : List Row) → let db = old.now.trees in
    let own = overlay db [] in
    kind_at at ≡ k → own (tree_of k) ≡ db (tree_of k) → IsQuery text (whole (tree_of k) (tree_of j) ties q) → ((xs : List Row) → page (whole (tree_of k) (tree_of j) ties q) params xs ≡ take 2 xs) →
    ((r : Row) → IsRowOf k r → of_key r ≡ true → entry_in k r ≡ entry at (told_content k (show r))) → ((r : Row) → IsRowOf k r → (entry_in k r).key ≡ at → of_key r ≡ true) →
    ((r : Row) → IsRowOf k r → passes own (tree_of j) ties params q.filter r ≡ (of_key r && not (is_withdrawn (records_of db) (entry_in k r)))) →
    ((xs : List Row) → map (λ (o : Output). o.1) (map (output (whole (tree_of k) (tree_of j) ties q)) (map (env_of own (tree_of j) ties params) xs)) ≡ map show xs) →
    IsStore old.now → Shown text params old new rows → contents_of (map (told_content k) rows) ≡ contents_at (records_of db) at
told_standing k j ties params at of_key show q text old new rows is own it first hits misses tests shown store h =
    let db = old.now.trees in
    let table = db (tree_of k) in
    let standing : Row → Bool = λ r. not (is_withdrawn (records_of db) (entry_in k r)) in
    let passing : Row → Bool = passes (overlay db []) (tree_of j) ties params q.filter in
    let s = seen (tree_of k) (tree_of j) ties q text it params old new rows store.ours h in
    let two = filter_both (IsRowOf k) passing of_key standing tests table (store.rows k) in
    told_at at (entry_in k) of_key show (told_content k) (IsRowOf k) hits misses (filter standing table) s.ordered rows
    (records_of db) (all_filtered (IsRowOf k) standing table (store.rows k)) (once_stand db k at is store.once) (both_stand db k at is)
    (subst (λ xs. IsPermutation xs s.ordered) (shown (filter passing (overlay db [] (tree_of k))) ∙ ap (λ (xs : List Row). map show (filter passing xs)) own ∙ ap (map show) two) s.same)
    (s.shown ∙ first s.ordered)
