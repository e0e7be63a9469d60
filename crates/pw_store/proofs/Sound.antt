-- From rows that were read in order to the records of the tables, each once.
use Rattle.std.proofs.Common.{◌≡◌, ◌<◌, inl, inr, ℕ, ◌+◌, take, get_or, List, [], ◌∷◌, ◌++◌, map, append_assoc, refl, sym, ap, subst, subst₂, ◌∙◌, arith}
use Rattle.std.proofs.lemmas.Bool.{cases_lt}
use Rattle.std.specs.List.{AllByRecursion}
use Rattle.std.specs.List.Sorted.{IsPermutation}
use Rattle.std.proofs.lemmas.List.Sorted.{IsPermutation-sym, IsPermutation-append}
use Rattle.sqlite_trees.proofs.ListLemmas.{all_weaker, all-permutation}
use Rattle.sqlite.specs.Order.{Row}
use Rattle.sqlite.specs.Tree.{Trees}
use Rattle.sqlite.specs.Effect.{Database}
use Rattle.sqlite.specs.State.{State, IsUnchanged}
use Rattle.pw_tariff.specs.Office.{OfficeRules}
use Rattle.pw_model.specs.declared.records.Entry.{Entry}
use Rattle.pw_model.specs.Office.{AllOfOffice, IsOfOffice}
use Rattle.pw_schema.specs.declared.kind.RecordKind.{RecordKind}
use Rattle.pw_schema.specs.declared.kind.RecordKind.TheVariants.{Readings, Assignments, TopUps, WithdrawnReadings, WithdrawnAssignments, WithdrawnTopUps}
use Rattle.pw_schema.specs.declared.kind.StoreVersion.TheVariants.{Third}
use Rattle.pw_schema.specs.Tables.{IsOurs}
use Rattle.pw_store.specs.Content.{IsRowOf, energy_tree, entries_of, entry_in, kinds_of, payment_tree, records_among, records_of, tree_of}
use Rattle.pw_store.specs.Kept.{IsStore}
use Rattle.pw_store.specs.declared.listings.Listing.TheVariants as listing
use Rattle.pw_store.specs.inner.Lists.{shown}
use Rattle.pw_store.specs.inner.Listings.{ShowsAll}
use Rattle.pw_schema.specs.Rows.{Tells, told}
use Rattle.pw_schema.specs.Judging.{AreRecords, IsRecord, IsTotalOf}
use Rattle.pw_schema.specs.declared.kind.TotalKind.TheVariants.{Energies, Payments}
use Rattle.pw_store.specs.Keyed.{IsEnergyRow, IsPaymentRow}
use Rattle.pw_store.specs.inner.Sums.{AreAllNumbered}
use Rattle.pw_store.specs.Opening.{HoldsRecords, HoldsAllRecords, HoldsSums, IsTotalRow, key_of_total}
use Rattle.pw_store.specs.declared.fault.OpenFault.{OpenFault}
use Rattle.pw_store.specs.inner.Opened.{RefusesUnless}
use Rattle.pw_store.proofs.InTurn.{trees_same}
use Rattle.pw_store.proofs.Scanning.{refuses_more}
use Rattle.pw_store.proofs.Once.{once-permuted, permuted}
use Rattle.pw_store.proofs.Lists.{told_permuted}
use Rattle.pw_store.proofs.OfKinds.{by_kind, each_kind, kinds_once, member_in, office_among, once_among, place}

pub of_shown : (k : RecordKind) (rows : List Row) → AllByRecursion (Tells k) (map (shown k) rows) → AllByRecursion (IsRowOf k) rows
of_shown k [] all = tt
of_shown Readings (r ∷ rows) all = (all.0, of_shown Readings rows all.1)
of_shown Assignments (r ∷ rows) all = (all.0, of_shown Assignments rows all.1)
of_shown TopUps (r ∷ rows) all = (all.0, of_shown TopUps rows all.1)
of_shown WithdrawnReadings (r ∷ rows) all = (all.0, of_shown WithdrawnReadings rows all.1)
of_shown WithdrawnAssignments (r ∷ rows) all = (all.0, of_shown WithdrawnAssignments rows all.1)
of_shown WithdrawnTopUps (r ∷ rows) all = (all.0, of_shown WithdrawnTopUps rows all.1)

pub told_of_office : (office : OfficeRules) (k : RecordKind) (rows : List Row) → AllByRecursion (IsRecord office k) rows → AllOfOffice office (map (told k) rows)
told_of_office office k [] all e m = absurd m
told_of_office office k (r ∷ rows) all e (inl i) = subst (IsOfOffice office) (sym i) all.0.1
told_of_office office k (r ∷ rows) all e (inr m) = told_of_office office k rows all.1 e m

pub good_records : (office : OfficeRules) (k : RecordKind) (db : Trees) (rows : List Row) → ShowsAll (listing.Records k) db rows → AreRecords office k rows → HoldsRecords office k db
good_records office k db rows shows good =
    let same = told_permuted k (db (tree_of k)) rows shows in
    let back = IsPermutation-sym (entries_of k db) (map (told k) rows) same in
    let kinds = all_weaker (IsRecord office k) (Tells k) (λ r it. it.0) rows good.each in
    record {
      rows = of_shown k (db (tree_of k)) (all-permutation (Tells k) rows (map (shown k) (db (tree_of k))) (IsPermutation-sym (map (shown k) (db (tree_of k))) rows shows) kinds);
      once = once-permuted (map (told k) rows) (entries_of k db) back good.once;
      of_office = λ e m. told_of_office office k rows good.each e ((permuted (entries_of k db) (map (told k) rows) same e).0 m);
    }

-- and back: where the table holds such records, so do the rows
pub to_shown : (office : OfficeRules) (k : RecordKind) (rows : List Row) → AllByRecursion (IsRowOf k) rows → AllOfOffice office (map (entry_in k) rows) → AllByRecursion (IsRecord office k) (map (shown k) rows)
to_shown office k [] all of = tt
to_shown office Readings (r ∷ rows) all of = ((all.0, of _ (inl refl)), to_shown office Readings rows all.1 (λ e m. of e (inr m)))
to_shown office Assignments (r ∷ rows) all of = ((all.0, of _ (inl refl)), to_shown office Assignments rows all.1 (λ e m. of e (inr m)))
to_shown office TopUps (r ∷ rows) all of = ((all.0, of _ (inl refl)), to_shown office TopUps rows all.1 (λ e m. of e (inr m)))
to_shown office WithdrawnReadings (r ∷ rows) all of = ((all.0, of _ (inl refl)), to_shown office WithdrawnReadings rows all.1 (λ e m. of e (inr m)))
to_shown office WithdrawnAssignments (r ∷ rows) all of = ((all.0, of _ (inl refl)), to_shown office WithdrawnAssignments rows all.1 (λ e m. of e (inr m)))
to_shown office WithdrawnTopUps (r ∷ rows) all of = ((all.0, of _ (inl refl)), to_shown office WithdrawnTopUps rows all.1 (λ e m. of e (inr m)))

pub good_back : (office : OfficeRules) (k : RecordKind) (db : Trees) (rows : List Row) → ShowsAll (listing.Records k) db rows → HoldsRecords office k db → AreRecords office k rows
good_back office k db rows shows held = record {
  each = all-permutation (IsRecord office k) (map (shown k) (db (tree_of k))) rows shows (to_shown office k (db (tree_of k)) held.rows held.of_office);
  once = once-permuted (entries_of k db) (map (told k) rows) (told_permuted k (db (tree_of k)) rows shows) held.once;
}

-- ---- all of them together
pub all_both : (office : OfficeRules) (xs ys : List Entry) → AllOfOffice office xs → AllOfOffice office ys → AllOfOffice office (xs ++ ys)
all_both office xs ys a b e m = elim (member_in e xs ys m) [ inl i ↦ a e i | inr j ↦ b e j ]

module _ (office : OfficeRules) (db : Database) (ours : IsOurs db.schema) (all : HoldsAllRecords Third office db.trees) (s : HoldsSums office db.trees) (n : AreAllNumbered db.trees) where
  pub sound_store : IsStore db
  sound_store = record {
    ours = ours;
    rows = λ k. (all k (each_kind k)).rows;
    once = once_among (kinds_of Third) db.trees (kinds_once Third) (λ k at. (all k at).once);
    points = record { each = s.points.rows; ids = n.points.ids; numbered = n.points.numbered; once = s.points.once };
    starts = record { each = s.starts.rows; ids = n.starts.ids; numbered = n.starts.numbered; once = s.starts.once };
    energies = record { each = all_weaker (λ row. IsTotalRow Energies row × IsTotalOf office (key_of_total Energies row)) IsEnergyRow (λ row it. it.0) (db.trees energy_tree) s.energies.rows; ids = n.energies.ids; numbered = n.energies.numbered; once = s.energies.once };
    payments = record { each = all_weaker (λ row. IsTotalRow Payments row × IsTotalOf office (key_of_total Payments row)) IsPaymentRow (λ row it. it.0) (db.trees payment_tree) s.payments.rows; ids = n.payments.ids; numbered = n.payments.numbered; once = s.payments.once };
    old = s.old;
  }

  pub sound_office : AllOfOffice office (records_of db.trees)
  sound_office = office_among office (kinds_of Third) db.trees (λ k at. (all k at).of_office)

-- ---- the kinds, checked one after the other
-- of so many kinds: their records
abbrev pub first_records : ℕ → Trees → List Entry
first_records n db = records_among (take n (kinds_of Third)) db

-- and that they are those of the office, each once
abbrev pub HoldsFirst : ℕ → OfficeRules → Trees → Type 0
HoldsFirst n office db = (k : RecordKind) → place k < n → HoldsRecords office k db

place_low : (k : RecordKind) → place k < 6
place_low = by_kind (λ k. place k < 6) (omega arith) (omega arith) (omega arith) (omega arith) (omega arith) (omega arith)

abbrev kind_of_place : ℕ → RecordKind
kind_of_place n = get_or (kinds_of Third) n WithdrawnTopUps

placed : (k : RecordKind) → kind_of_place (place k) ≡ k
placed = by_kind (λ k. kind_of_place (place k) ≡ k) refl refl refl refl refl refl

same_kind : (j k : RecordKind) → place j ≡ place k → j ≡ k
same_kind j k e = sym (placed j) ∙ ap kind_of_place e ∙ placed k

behind_none : (xs : List Entry) → xs ++ [] ≡ xs
behind_none [] = refl
behind_none (x ∷ xs) = ap (λ ys. x ∷ ys) (behind_none xs)

next_records : (k : RecordKind) (db : Trees) → first_records (place k) db ++ entries_of k db ≡ first_records (place k + 1) db
next_records k db = records_next (take (place k) (kinds_of Third)) k db ∙ ap (λ kinds. records_among kinds db) (taken k)
  where
    records_next : (kinds : List RecordKind) (j : RecordKind) (d : Trees) → records_among kinds d ++ entries_of j d ≡ records_among (kinds ++ j ∷ []) d
    records_next [] j d = sym (behind_none (entries_of j d))
    records_next (l ∷ kinds) j d = append_assoc (entries_of l d) (records_among kinds d) (entries_of j d) ∙ ap (λ xs. entries_of l d ++ xs) (records_next kinds j d)

    taken : (j : RecordKind) → take (place j) (kinds_of Third) ++ j ∷ [] ≡ take (place j + 1) (kinds_of Third)
    taken = by_kind (λ j. take (place j) (kinds_of Third) ++ j ∷ [] ≡ take (place j + 1) (kinds_of Third)) refl refl refl refl refl refl

-- all of them at last
pub all_hold : (office : OfficeRules) (db : Trees) → HoldsFirst 6 office db → HoldsAllRecords Third office db
all_hold office db first k at = first k (place_low k)

-- the next kind, checked at a connection that is as it was
module _ (office : OfficeRules) (old now : State) (same : IsUnchanged old now) (k : RecordKind) (n : ℕ) (at : n ≡ place k) where
  here : now.now.trees ≡ old.now.trees
  here = trees_same old now same

  pub one_more_holds : HoldsFirst n office old.now.trees → HoldsRecords office k now.now.trees → HoldsFirst (n + 1) office old.now.trees
  one_more_holds before it j low = elim (cases_lt (place j) n) [
    | inl less ↦ before j less
    | inr high ↦ subst (λ l. HoldsRecords office l old.now.trees) (same_kind k j (omega (arith, low, high, at))) (subst (HoldsRecords office k) here it)
  ]

  pub one_more_listed : (all found more : List Entry) → IsPermutation (first_records n old.now.trees) all → IsPermutation (entries_of k now.now.trees) found → more ≡ all ++ found → IsPermutation (first_records (n + 1) old.now.trees) more
  one_more_listed all found more before it is =
      let db = old.now.trees in
      let both = IsPermutation-append (first_records (place k) db) all (entries_of k db) found (subst (λ m. IsPermutation (first_records m db) all) at before) (subst (λ d. IsPermutation (entries_of k d) found) here it) in
      subst₂ IsPermutation (next_records k db ∙ ap (λ m. first_records (m + 1) db) (sym at)) (sym is) both

  pub one_refused : (fault : OpenFault) → RefusesUnless (HoldsRecords office k now.now.trees) fault → RefusesUnless (HoldsAllRecords Third office old.now.trees) fault
  one_refused fault refused = refuses_more _ _ fault (λ all. subst (HoldsRecords office k) (sym here) (all k (each_kind k))) refused
