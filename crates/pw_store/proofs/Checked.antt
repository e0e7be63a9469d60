-- From rows that were read in the order of their keys to the rows of the tables.
use Rattle.std.proofs.Common.{◌≡◌, inl, inr, ℕ, ℤ, List, [], ◌∷◌, map, Bool, true, false, Decides, refl, sym, ap, subst, subst₂, ◌∙◌, Ordering, Less, Equal, Greater}
use Rattle.std.specs.List.{AllByRecursion}
use Rattle.std.specs.List.Sorted.{IsPermutation}
use Rattle.std.proofs.lemmas.List.Sorted.{IsPermutation-sym, IsPermutation-map}
use Rattle.std.specs.Ordering.{is_eq, int_cmp}
use Rattle.std.specs.Cmp.{int_ranked}
use Rattle.std.proofs.lemmas.Cmp.{int_cmp_total, tied_itself}
use Rattle.sqlite_trees.proofs.ListLemmas.{all_weaker, all-permutation, map-map}
use Rattle.sqlite.specs.declared.types.Value.TheVariants.{Int}
use Rattle.sqlite.specs.Order.{Row, column}
use Rattle.sqlite.specs.Edit.{id_in}
use Rattle.sqlite.specs.Tree.{rowid}
use Rattle.pw_tariff.specs.Office.{OfficeRules}
use Rattle.pw_model.specs.declared.records.Key.{Key}
use Rattle.pw_model.specs.declared.records.Entry.{Entry}
use Rattle.pw_model.specs.declared.records.TotalKey.{TotalKey}
use Rattle.pw_model.specs.declared.records.TotalKey.TheVariants as total
use Rattle.pw_model.specs.Counting.{Member, EachOnce}
use Rattle.pw_model.specs.Lists.{IsInOrder}
use Rattle.pw_model.specs.Same.{same_key}
use Rattle.pw_model.proofs.Same.{same_key-decides}
use Rattle.pw_shelf.specs.Changes.{same_total}
use Rattle.pw_schema.specs.declared.kind.RecordKind.{RecordKind}
use Rattle.pw_schema.specs.declared.kind.TotalKind.{TotalKind}
use Rattle.pw_schema.specs.declared.kind.TotalKind.TheVariants.{Energies, Payments}
use Rattle.pw_schema.specs.Rows.{told, Tells, told_key, number}
use Rattle.pw_schema.specs.Judging.{AreKept, AreTotals, AreRowids, IsRecord, IsTotal, IsTotalOf, by_key, by_total, id_of, told_total}
use Rattle.pw_store.specs.Content.{payment_in, entry_in}
use Rattle.pw_store.specs.Keyed.{HasRowid}
use Rattle.pw_store.specs.inner.Lists.{shown}
use Rattle.pw_store.specs.Opening.{HoldsKept, HoldsTotals, IsTotalRow, key_of_total}
use Rattle.pw_store.specs.inner.Sums.{AreNumbered, TellsKept, TellsTotals, shown_id, shown_total, total_in_row}
use Rattle.pw_store.proofs.Others.{same_total-decides}
use Rattle.pw_store.proofs.Lists.{told_permuted}
use Rattle.pw_store.proofs.Once.{once-moved, permuted}
use Rattle.pw_store.proofs.Sound.{of_shown, to_shown, told_of_office}

abbrev key_of : Entry → Key
key_of e = e.key

-- ---- points and starts
module _ (office : OfficeRules) (k : RecordKind) (table rows : List Row) (shows : IsPermutation (map (shown k) table) rows) where
  entries : IsPermutation (map (entry_in k) table) (map (told k) rows)
  entries = told_permuted k table rows shows

  keys : IsPermutation (map (λ r. (entry_in k r).key) table) (map (λ r. (told k r).key) rows)
  keys = subst₂ IsPermutation (map-map key_of (entry_in k) table) (map-map key_of (told k) rows) (IsPermutation-map key_of (map (entry_in k) table) (map (told k) rows) entries)

  pub good_kept : AreKept office k rows → HoldsKept office k table
  good_kept good = record {
    rows = of_shown k table (all-permutation (Tells k) rows (map (shown k) table) (IsPermutation-sym (map (shown k) table) rows shows) (all_weaker (IsRecord office k) (Tells k) (λ r it. it.0) rows good.each));
    once = once-moved same_key same_key-decides _ _ (IsPermutation-sym _ _ keys) good.once;
    of_office = λ e m. told_of_office office k rows good.each e ((permuted (map (entry_in k) table) (map (told k) rows) entries e).0 m);
  }

  pub back_kept : HoldsKept office k table → AreKept office k rows
  back_kept held = record {
    each = all-permutation (IsRecord office k) (map (shown k) table) rows shows (to_shown office k table held.rows held.of_office);
    once = once-moved same_key same_key-decides _ _ keys held.once;
  }

  pub tells_kept : (found : List Entry) → found ≡ map (told k) rows → IsInOrder by_key found → TellsKept k table found
  tells_kept found are rising = record { told = subst (IsPermutation (map (entry_in k) table)) (sym are) entries; rising = rising }

-- ---- totals
to_total : (office : OfficeRules) (k : TotalKind) (rows : List Row) → AllByRecursion (IsTotal office k) (map (shown_total k) rows) → AllByRecursion (λ r. IsTotalRow k r × IsTotalOf office (key_of_total k r)) rows
to_total office k [] all = tt
to_total office Energies (r ∷ rows) all = (all.0, to_total office Energies rows all.1)
to_total office Payments (r ∷ rows) all = (all.0, to_total office Payments rows all.1)

from_total : (office : OfficeRules) (k : TotalKind) (rows : List Row) → AllByRecursion (λ r. IsTotalRow k r × IsTotalOf office (key_of_total k r)) rows → AllByRecursion (IsTotal office k) (map (shown_total k) rows)
from_total office k [] all = tt
from_total office Energies (r ∷ rows) all = (all.0, from_total office Energies rows all.1)
from_total office Payments (r ∷ rows) all = (all.0, from_total office Payments rows all.1)

told_totals : (k : TotalKind) (rows : List Row) → map (told_total k) (map (shown_total k) rows) ≡ map (total_in_row k) rows
told_totals k [] = refl
told_totals Energies (r ∷ rows) = ap (λ xs. total_in_row Energies r ∷ xs) (told_totals Energies rows)
told_totals Payments (r ∷ rows) = ap (λ xs. total_in_row Payments r ∷ xs) (told_totals Payments rows)

told_keys : (k : TotalKind) (rows : List Row) → map (told_key k) (map (shown_total k) rows) ≡ map (key_of_total k) rows
told_keys k [] = refl
told_keys Energies (r ∷ rows) = ap (λ xs. key_of_total Energies r ∷ xs) (told_keys Energies rows)
told_keys Payments (r ∷ rows) = ap (λ xs. key_of_total Payments r ∷ xs) (told_keys Payments rows)

module _ (office : OfficeRules) (k : TotalKind) (table rows : List Row) (shows : IsPermutation (map (shown_total k) table) rows) where
  total_keys : IsPermutation (map (key_of_total k) table) (map (told_key k) rows)
  total_keys = subst (λ xs. IsPermutation xs (map (told_key k) rows)) (told_keys k table) (IsPermutation-map (told_key k) (map (shown_total k) table) rows shows)

  pub good_totals : AreTotals office k rows → HoldsTotals office k table
  good_totals good = record {
    rows = to_total office k table (all-permutation (IsTotal office k) rows (map (shown_total k) table) (IsPermutation-sym (map (shown_total k) table) rows shows) good.each);
    once = once-moved same_total same_total-decides _ _ (IsPermutation-sym _ _ total_keys) good.once;
  }

  pub back_totals : HoldsTotals office k table → AreTotals office k rows
  back_totals held = record {
    each = all-permutation (IsTotal office k) (map (shown_total k) table) rows shows (from_total office k table held.rows);
    once = once-moved same_total same_total-decides _ _ total_keys held.once;
  }

  pub tells_totals : (found : List (TotalKey × ℕ)) → found ≡ map (told_total k) rows → IsInOrder by_total found → TellsTotals k table found
  tells_totals found are rising = record {
    told = subst₂ IsPermutation (told_totals k table) (sym are) (IsPermutation-map (told_total k) (map (shown_total k) table) rows shows);
    rising = rising;
  }

-- ---- rowids
same_int : ℤ → ℤ → Bool
same_int a b = is_eq (int_cmp a b)

equal_is : (o : Ordering) → is_eq o ≡ true → o ≡ Equal
equal_is Less e = absurd (let f : false ≡ true = e in cc)
equal_is Equal e = refl
equal_is Greater e = absurd (let f : false ≡ true = e in cc)

same_int-decides : (a b : ℤ) → Decides (same_int a b) (a ≡ b)
unfolding same_int
same_int-decides a b = (
  λ e. int_ranked a b Equal (sym (equal_is (int_cmp a b) e)),
  λ e. subst (λ c. is_eq (int_cmp a c) ≡ true) e (ap is_eq (tied_itself int_cmp_total a)),
)

-- a list is each once where what is made of it is
image : {A B : Type 0} (g : A → B) (x : A) (xs : List A) → Member x xs → Member (g x) (map g xs)
image g x [] m = absurd m
image g x (y ∷ xs) (inl e) = inl (ap g e)
image g x (y ∷ xs) (inr m) = inr (image g x xs m)

once_before : {A B : Type 0} (g : A → B) (xs : List A) → EachOnce (map g xs) → EachOnce xs
once_before g [] h = tt
once_before g (x ∷ xs) h = (λ m. h.0 (image g x xs m), once_before g xs h.1)

ids_are : (table : List Row) → map (λ r. id_of (column r 0)) (map shown_id table) ≡ map id_of (map rowid table)
ids_are [] = refl
ids_are (r ∷ table) = ap (λ xs. id_of (rowid r) ∷ xs) (ids_are table)

have_ids : (table : List Row) → AllByRecursion (λ r. column r 0 ≡ Int (id_of (column r 0))) (map shown_id table) → AllByRecursion HasRowid table
have_ids [] all = tt
have_ids (r ∷ table) all = (all.0 ∙ ap Int (sym (ap id_in all.0)), have_ids table all.1)

pub are_numbered : (table ids : List Row) → IsPermutation (map shown_id table) ids → AreRowids ids → AreNumbered table
are_numbered table ids shows good = record {
  ids = have_ids table (all-permutation (λ r. column r 0 ≡ Int (id_of (column r 0))) ids (map shown_id table) (IsPermutation-sym _ _ shows) good.each);
  numbered = once_before id_of (map rowid table) (subst EachOnce (ids_are table)
      (once-moved same_int same_int-decides _ _ (IsPermutation-sym _ _ (IsPermutation-map (λ r. id_of (column r 0)) (map shown_id table) ids shows)) good.once));
}

-- the account of a total of top-ups is its rowid
payment_ids : (office : OfficeRules) (table : List Row) → AllByRecursion (λ r. IsTotalRow Payments r × IsTotalOf office (key_of_total Payments r)) table → AllByRecursion HasRowid table
payment_ids office [] all = tt
payment_ids office (r ∷ table) all = (all.0.0.0 ∙ ap Int (sym (ap id_in all.0.0.0)), payment_ids office table all.1)

account_of : (table : List Row) → map (key_of_total Payments) table ≡ map (λ v. total.TopUps (record { 0 = number v })) (map rowid table)
account_of [] = refl
account_of (r ∷ table) = ap (λ xs. payment_in r ∷ xs) (account_of table)

pub payments_numbered : (office : OfficeRules) (table : List Row) → HoldsTotals office Payments table → AreNumbered table
payments_numbered office table held = record {
  ids = payment_ids office table held.rows;
  numbered = once_before (λ v. total.TopUps (record { 0 = number v })) (map rowid table) (subst EachOnce (account_of table) held.once);
}
