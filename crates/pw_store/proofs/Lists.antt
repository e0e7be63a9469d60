-- What the queries that list records show.
use Rattle.std.proofs.Common.{Vec, ◌≡◌, ℕ, ◌-◌, ◌^◌, nat_le, if◌then◌else◌, true, false, None, unwrap_or, slice_get, List, [], ◌∷◌, map, Ok, Err, Result, IfOk, refl, sym, ap, subst}
use Rattle.std.specs.List.Sorted.{IsPermutation}
use Rattle.std.proofs.lemmas.List.Sorted.{IsPermutation-map}
use Rattle.sqlite.specs.Order.{Row}
use Rattle.sqlite.specs.Query.{Query, Output, page}
use Rattle.sqlite.specs.Program.{overlay}
use Rattle.sqlite.specs.State.{State, Shown}
use Rattle.pw_schema.specs.Tables.{IsOurs, ours_with, only_one}
use Rattle.sqlite.specs.Tree.{Trees}
use Rattle.pw_model.specs.declared.records.Entry.{Entry}
use Rattle.pw_model.specs.Counting.{SameMembers}
use Rattle.pw_shelf.specs.Rows.{ListsHeld}
use Rattle.pw_store.specs.Content.{entries_of, entry_in, records_of, tree_of}
use Rattle.pw_schema.specs.declared.kind.RecordKind.{RecordKind}
use Rattle.pw_schema.specs.declared.kind.RecordKind.TheVariants.{Readings, Assignments, TopUps, WithdrawnReadings, WithdrawnAssignments, WithdrawnTopUps}
use Rattle.pw_store.specs.declared.listings.Listing.TheVariants as listing
use Rattle.pw_store.specs.inner.Lists.{IsKeptAs, shown}
use Rattle.pw_store.specs.inner.Listings.{ShowsAll}
use Rattle.pw_schema.specs.Rows.{told, ReadsRows}
use Rattle.pw_store.proofs.OfKinds.{from_table, in_table, of_kind}
use Rattle.pw_store.proofs.Once.{permuted}
use Rattle.pw_store.proofs.Texts.{IsQuery}
use Rattle.pw_store.proofs.Scans.{scan_of, answer_of, outputs}

abbrev pub second : Output → Row
second o = o.1

-- no table that is computed stands at a tree
pub plainly : (db : Trees) (tree : ℕ) → overlay db [] tree ≡ db tree
plainly db tree = elim (nat_le (2 ^ 31) tree) as (λ b. unwrap_or (if b then slice_get [] (tree - 2 ^ 31) else None) (db tree) ≡ db tree) [ true ↦ refl | false ↦ refl ]

-- what a query over one table shows, where it has no LIMIT
module _ (text : List ℕ) (tree : ℕ) (q : Query) (it : IsQuery text (scan_of tree q)) (params : Row) (old new : State) (rows : List Row) (ours : IsOurs old.now.schema) (h : Shown text params old new rows) where
  pub seen : (ordered : List Output) × IsPermutation (map second (outputs (scan_of tree q) params (old.now.trees tree))) (map second ordered) × (rows ≡ page (scan_of tree q) params (map second ordered))
  seen =
      let own = only_one in
      let scan = answer_of (ours_with own) text params old new it.names tree q rows ours (it.is own) (it.plain own) (it.unlisted own) h in
      let same = subst (λ table. IsPermutation (outputs (scan_of tree q) params table) scan.ordered) (plainly old.now.trees tree) scan.same in
      (scan.ordered, IsPermutation-map second (outputs (scan_of tree q) params (old.now.trees tree)) scan.ordered same, scan.shown)

-- ---- from the rows that were read to the list of the records
told_in : (k : RecordKind) (rows : List Row) → map (told k) (map (shown k) rows) ≡ map (entry_in k) rows
told_in k [] = refl
told_in Readings (r ∷ rows) = ap (λ xs. entry_in Readings r ∷ xs) (told_in Readings rows)
told_in Assignments (r ∷ rows) = ap (λ xs. entry_in Assignments r ∷ xs) (told_in Assignments rows)
told_in TopUps (r ∷ rows) = ap (λ xs. entry_in TopUps r ∷ xs) (told_in TopUps rows)
told_in WithdrawnReadings (r ∷ rows) = ap (λ xs. entry_in WithdrawnReadings r ∷ xs) (told_in WithdrawnReadings rows)
told_in WithdrawnAssignments (r ∷ rows) = ap (λ xs. entry_in WithdrawnAssignments r ∷ xs) (told_in WithdrawnAssignments rows)
told_in WithdrawnTopUps (r ∷ rows) = ap (λ xs. entry_in WithdrawnTopUps r ∷ xs) (told_in WithdrawnTopUps rows)

pub told_permuted : (k : RecordKind) (table rows : List Row) → IsPermutation (map (shown k) table) rows → IsPermutation (map (entry_in k) table) (map (told k) rows)
told_permuted k table rows h = subst (λ xs. IsPermutation xs (map (told k) rows)) (told_in k table) (IsPermutation-map (told k) (map (shown k) table) rows h)

pub lists_kind : (k : RecordKind) (db : Trees) (rows : List Row) (found : List Entry) → ShowsAll (listing.Records k) db rows → ReadsRows k rows found → ListsHeld (IsKeptAs k) (records_of db) found
lists_kind k db rows found shows reads =
    let same : SameMembers (entries_of k db) found = subst (SameMembers (entries_of k db)) (sym reads.are) (permuted (entries_of k db) (map (told k) rows) (told_permuted k (db (tree_of k)) rows shows)) in
    record {
      rising = reads.rising;
      members = λ x. (
        λ m. (let there = (same x).1 m in (from_table db x k there, of_kind k (db (tree_of k)) x there)),
        λ m. (same x).0 (in_table db x k m.1 m.0),
      );
    }

pub if_ok : {E Z : Type 0} (P Q : List Row → Type 0) → ((rows : List Row) → P rows → Q rows) → (r : Result (Vec Row Z) E) → IfOk r (λ rows. P rows.items) → IfOk r (λ rows. Q rows.items)
if_ok P Q f (Ok rows) h = f rows.items h
if_ok P Q f (Err e) h = tt
