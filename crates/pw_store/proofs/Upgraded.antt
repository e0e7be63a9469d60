-- A store of an earlier version that was left as one of version 3 opens as it would have.
use Rattle.std.proofs.Common.{◌≤◌, inl, inr, ℕ, List, length, refl, sym, subst, ◌∙◌}
use Rattle.std.specs.List.{AllByRecursion}
use Rattle.sqlite.specs.Tree.{Trees}
use Rattle.sqlite.specs.Effect.{Database}
use Rattle.pw_tariff.specs.Office.{OfficeRules}
use Rattle.pw_model.specs.declared.records.Entry.{Entry}
use Rattle.pw_model.specs.Counting.{EachOnce, Member}
use Rattle.pw_model.specs.Office.{AllOfOffice, most_records}
use Rattle.pw_model.specs.Shelf.{IsTrueContent}
use Rattle.pw_schema.specs.declared.kind.RecordKind.{RecordKind}
use Rattle.pw_schema.specs.declared.kind.RecordKind.TheVariants.{Readings, Assignments, TopUps, WithdrawnReadings, WithdrawnAssignments, WithdrawnTopUps}
use Rattle.pw_schema.specs.declared.kind.StoreVersion.{StoreVersion}
use Rattle.pw_schema.specs.declared.kind.StoreVersion.TheVariants.{First, Second, Third}
use Rattle.pw_schema.specs.declared.kind.TotalKind.TheVariants.{Energies}
use Rattle.pw_schema.specs.Judging.{IsTotalOf}
use Rattle.pw_schema.specs.Raised.{IsRaised}
use Rattle.sqlite_trees.proofs.ListLemmas.{all_weaker}
use Rattle.pw_store.specs.Content.{IsAssignmentRow, IsReadingRow, IsRowOf, energy_in, energy_tree, kinds_of, payment_in, tree_of}
use Rattle.pw_store.specs.Keyed.{IsEnergyRow, IsPaymentRow}
use Rattle.pw_store.specs.Kept.{key_in_point, key_in_start}
use Rattle.pw_store.specs.Left.{IsFilled, IsUpgraded, UpgradedHolds, UpgradedOpens}
use Rattle.pw_store.specs.Opening.{AreRows, HasEnergies, HasRows, IsOpenable, IsTotalRow, NamesOffice, key_of_total}
use Rattle.pw_store.proofs.Filled.{kinds_on}
use Rattle.pw_store.proofs.Openable.{opens_version}
use Rattle.pw_store.proofs.Raised.{raised_records, same_payment, same_point, same_start}
use Rattle.pw_store.proofs.Reopening.{found_ours}

kind_rows : (v : StoreVersion) (before db : Trees) → IsRaised v before db → ((k : RecordKind) → Member k (kinds_of v) → AllByRecursion (IsRowOf k) (before (tree_of k))) → (k : RecordKind) → Member k (kinds_of Third) → AllByRecursion (IsRowOf k) (db (tree_of k))
kind_rows First before db h rows Readings at = subst (AllByRecursion (IsRowOf Readings)) (sym h.same.0) (rows Readings (inl refl))
kind_rows First before db h rows Assignments at = subst (AllByRecursion (IsRowOf Assignments)) (sym h.same.1.0) (rows Assignments (inr (inl refl)))
kind_rows First before db h rows TopUps at = subst (AllByRecursion (IsRowOf TopUps)) (sym h.same.1.1.0) (rows TopUps (inr (inr (inl refl))))
kind_rows First before db h rows WithdrawnReadings at = subst (AllByRecursion (IsRowOf WithdrawnReadings)) (sym h.empty.0) tt
kind_rows First before db h rows WithdrawnAssignments at = subst (AllByRecursion (IsRowOf WithdrawnAssignments)) (sym h.empty.1.0) tt
kind_rows First before db h rows WithdrawnTopUps at = subst (AllByRecursion (IsRowOf WithdrawnTopUps)) (sym h.empty.1.1.0) tt
kind_rows Second before db h rows k at = subst (AllByRecursion (IsRowOf k)) (sym (kinds_on before db h.same k)) (rows k at)
kind_rows Third before db h rows k at = subst (AllByRecursion (IsRowOf k)) (sym (kinds_on before db h.same k)) (rows k at)

-- of the energies that were put
module _ (office : OfficeRules) (db : Trees) (it : IsFilled office db) where
  filled_rows : HasEnergies db
  filled_rows = record {
    rows = record {
      each = all_weaker (λ row. IsTotalRow Energies row × IsTotalOf office (key_of_total Energies row)) IsEnergyRow (λ row both. both.0) (db energy_tree) it.energies.rows;
      once = it.energies.once;
    };
    none = it.old;
  }

  filled_named : AllByRecursion (λ r. IsTotalOf office (energy_in r)) (db energy_tree)
  filled_named = all_weaker (λ row. IsTotalRow Energies row × IsTotalOf office (key_of_total Energies row)) (λ row. IsTotalOf office (energy_in row)) (λ row both. both.1) (db energy_tree) it.energies.rows

module _ (v : StoreVersion) (before db : Trees) (h : IsRaised v before db) where
  raised_rows : HasRows v before → HasEnergies db → HasRows Third db
  raised_rows it energies = record {
    rows = kind_rows v before db h it.rows;
    once = subst EachOnce (sym (raised_records v before db h)) it.once;
    points = subst (AreRows IsReadingRow key_in_point) (sym (same_point v before db h)) it.points;
    starts = subst (AreRows IsAssignmentRow key_in_start) (sym (same_start v before db h)) it.starts;
    energies = energies;
    payments = subst (AreRows IsPaymentRow payment_in) (sym (same_payment v before db h)) it.payments;
  }

  raised_named : (office : OfficeRules) → NamesOffice v office before → AllByRecursion (λ r. IsTotalOf office (energy_in r)) (db energy_tree) → NamesOffice Third office db
  raised_named office it energies = record {
    energies = energies;
    payments = subst (AllByRecursion (λ r. IsTotalOf office (payment_in r))) (sym (same_payment v before db h)) it.payments;
  }

upgraded_openable : (v : StoreVersion) (office : OfficeRules) (body : List ℕ) (before found : Database) → IsOpenable v office body before → IsUpgraded v office body before found → IsOpenable Third office body found
upgraded_openable v office body before found it up =
    let same = raised_records v before.trees found.trees up.raised in
    record {
      ours = up.ours;
      text = up.text;
      rows = raised_rows v before.trees found.trees up.raised it.rows (filled_rows office found.trees up.filled);
      named = raised_named v before.trees found.trees up.raised office it.named (filled_named office found.trees up.filled);
      of_office = subst (AllOfOffice office) (sym same) it.of_office;
      few = subst (λ (s : List Entry). length s ≤ most_records) (sym same) it.few;
      truth = subst (IsTrueContent office) (sym up.content) it.truth;
    }

pub upgraded_opens : UpgradedOpens
upgraded_opens v office body before found fault it up = opens_version Third office body found fault (upgraded_openable v office body before found it up)

pub upgraded_holds : UpgradedHolds
upgraded_holds v office body before found c up is = inl (v, (up.was.schema_is, found_ours office found c up.ours.schema_is is ∙ up.content))
