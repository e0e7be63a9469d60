-- What a change of one table keeps of earlier trees.
use Rattle.std.proofs.Common.{◌≡◌, ◌<◌, Bool, List, sym, subst, ◌∙◌, arith}
use Rattle.std.specs.List.{AllByRecursion, filter}
use Rattle.sqlite.specs.Order.{Row}
use Rattle.sqlite.specs.Term.{Term}
use Rattle.sqlite.specs.Tree.{Trees, put_row}
use Rattle.sqlite.specs.Edit.{Applies, Edit}
use Rattle.sqlite_schema.specs.declared.schema.Keys.{Keys}
use Rattle.sqlite_trees.specs.Objects.{catalog_tree}
use Rattle.sqlite_trees.proofs.ListLemmas.{all-filter}
use Rattle.sqlite_trees.proofs.TreeLemmas.{all-put_row}
use Rattle.pw_schema.specs.Tables.{ours_with}
use Rattle.pw_store.specs.Content.{energy_tree, payment_tree}
use Rattle.pw_store.specs.Left.{IsOldEnergy, IsOldPayment}
use Rattle.pw_store.specs.inner.Changing.{StillKeeps}

-- ---- rows that are the same, fewer, or one more
pub fewer : (P : Row → Type 0) (p : Row → Bool) (old new : List Row) → new ≡ filter p old → AllByRecursion P old → AllByRecursion P new
fewer P p old new is all = subst (AllByRecursion P) (sym is) (all-filter P p old all)

pub more : (P : Row → Type 0) (row : Row) (old new : List Row) → new ≡ put_row row old → P row → AllByRecursion P old → AllByRecursion P new
more P row old new is one all = subst (AllByRecursion P) (sym is) (all-put_row P row old one all)

-- ---- an edit of a table behind `office`
module _ (checks : List Term) (keys : Keys) (old new : Trees) (edit : Edit) (it : Applies (ours_with checks) keys old edit new) (behind : 0 < edit.table.tree) (low : edit.table.tree < 22) where
  listed_same : new catalog_tree ≡ old catalog_tree
  listed_same = it.others catalog_tree (λ e. absurd (omega (arith, e, low)))
      (λ e. absurd (omega (arith, e)), (λ e. absurd (omega (arith, e)), (λ e. absurd (omega (arith, e)), (λ e. absurd (omega (arith, e)), (λ e. absurd (omega (arith, e)), (λ e. absurd (omega (arith, e)), (λ e. absurd (omega (arith, e)), (λ e. absurd (omega (arith, e)), (λ e. absurd (omega (arith, e)), (λ e. absurd (omega (arith, e)), tt))))))))))

  office_same : new 0 ≡ old 0
  office_same = it.tables.0 (λ e. absurd (omega (arith, e, behind)))

  -- totals are the same, or what was kept of them is
  pub keeps_rows : ((before : Trees) → AllByRecursion (IsOldEnergy before) (old energy_tree) → AllByRecursion (IsOldEnergy before) (new energy_tree))
      → ((before : Trees) → AllByRecursion (IsOldPayment before) (old payment_tree) → AllByRecursion (IsOldPayment before) (new payment_tree))
      → StillKeeps old new
  keeps_rows energies payments before k = record {
    listed = listed_same ∙ k.listed;
    office = office_same ∙ k.office;
    energies = energies before k.energies;
    payments = payments before k.payments;
  }

  pub keeps_sums : new energy_tree ≡ old energy_tree → new payment_tree ≡ old payment_tree → StillKeeps old new
  keeps_sums t p = keeps_rows (λ before all. subst (AllByRecursion (IsOldEnergy before)) (sym t) all) (λ before all. subst (AllByRecursion (IsOldPayment before)) (sym p) all)
