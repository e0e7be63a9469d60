-- What rows of a true content of entries of the office hold.
use Rattle.std.proofs.Common.{ℕ, List, [], ◌∷◌, map, Option, sym, ap, subst, ◌∙◌}
use Rattle.std.specs.List.{AllByRecursion}
use Rattle.sqlite.specs.Order.{Row, column}
use Rattle.sqlite.specs.Tree.{Trees}
use Rattle.pw_obis.specs.declared.reference.Register.{Register}
use Rattle.pw_tariff.specs.declared.ids.AccountId.{AccountId}
use Rattle.pw_tariff.specs.Office.{OfficeRules}
use Rattle.pw_model.specs.Counting.{Member, contents_at, reading_key, assignment_key}
use Rattle.pw_model.specs.Lists.{reading_entry}
use Rattle.pw_model.specs.Office.{AllOfOffice, IsOfOffice}
use Rattle.pw_model.specs.Same.{same_key}
use Rattle.pw_model.specs.Shelf.{IsTrueContent}
use Rattle.pw_model.proofs.Counting.{one-is_counting, standing-part}
use Rattle.pw_model.proofs.Same.{same_key-decides}
use Rattle.pw_parts.specs.Laws.{assignment_entry}
use Rattle.pw_parts.proofs.Seconds.{wh-one, owner-one}
use Rattle.pw_schema.specs.declared.kind.StoreVersion.{StoreVersion}
use Rattle.pw_schema.specs.declared.kind.StoreVersion.TheVariants.{First, Second, Third}
use Rattle.pw_schema.specs.Rows.{number, register_at, owner_at}
use Rattle.pw_store.specs.Content.{content_of_version, kinds_of, records_of_version, reading_in, assignment_in, energy_in, energy_tree, payment_in, payment_tree, point_tree, start_tree}
use Rattle.pw_store.specs.inner.Opened.{HoldsEnergies}
use Rattle.pw_store.specs.Opening.{HasEnergiesOf, HasRows, NamesEnergies, NamesOffice, HoldsAllRecords, HoldsLasting, HoldsSums, HoldsSumsOf, IsTotalRow, key_of_total}
use Rattle.pw_schema.specs.declared.kind.TotalKind.TheVariants.{Energies, Payments}
use Rattle.pw_schema.specs.Judging.{IsTotalOf}
use Rattle.sqlite_trees.proofs.ListLemmas.{all_weaker}
use Rattle.pw_store.proofs.KeyedRows.{before_map, row_told}
use Rattle.pw_store.proofs.OfKinds.{among_kinds, once_of_kind}

all_two : {X : Type 0} (P Q : X → Type 0) (xs : List X) → AllByRecursion P xs → AllByRecursion Q xs → AllByRecursion (λ x. P x × Q x) xs
all_two P Q [] p q = tt
all_two P Q (x ∷ xs) p q = ((p.0, q.0), all_two P Q xs p.1 q.1)

-- of the totals that are held, those of energy
pub energies_held : (office : OfficeRules) (db : Trees) → HoldsSums office db → HoldsEnergies office db
energies_held office db sums = record { energies = sums.energies; old = sums.old }

-- totals of the office name what it has
pub names_office : (office : OfficeRules) (db : Trees) → HoldsSums office db → NamesOffice Third office db
names_office office db sums = record {
  energies = all_weaker (λ row. IsTotalRow Energies row × IsTotalOf office (key_of_total Energies row)) (λ row. IsTotalOf office (energy_in row)) (λ row it. it.1) (db energy_tree) sums.energies.rows;
  payments = all_weaker (λ row. IsTotalRow Payments row × IsTotalOf office (key_of_total Payments row)) (λ row. IsTotalOf office (payment_in row)) (λ row it. it.1) (db payment_tree) sums.payments.rows;
}

module _ (v : StoreVersion) (office : OfficeRules) (db : Trees) (rows : HasRows v db) (of : AllOfOffice office (records_of_version v db)) where
  pub records_held : HoldsAllRecords v office db
  records_held k at = record {
    rows = rows.rows k at;
    once = once_of_kind (kinds_of v) db k at rows.once;
    of_office = λ e m. of e (among_kinds (kinds_of v) db k e at m);
  }

  module _ (it : IsTrueContent office (content_of_version office v db)) (named : NamesOffice v office db) where
    point_of_office : (r : Row) → Member r (db point_tree) → IsOfOffice office (reading_in r)
    point_of_office r m =
        let meter = number (column r 1) in
        let register = register_at (number (column r 2)) in
        let second = number (column r 3) in
        let wh = number (column r 4) in
        let told = row_told same_key same_key-decides (λ x. (reading_in x).key) (λ x. number (column x 4)) (db point_tree) r rows.points.once m in
        let counted = sym (ap (λ (f : ℕ → Register → ℕ → Option ℕ). f meter register second) it.points) ∙ told in
        let one = wh-one (contents_at (records_of_version v db) (reading_key meter register second)) wh counted in
        of (reading_in r) (standing-part (records_of_version v db) (reading_in r) ((one-is_counting (records_of_version v db) (reading_entry meter register second wh) tt).0 one).0)

    start_of_office : (r : Row) → Member r (db start_tree) → IsOfOffice office (assignment_in r)
    start_of_office r m =
        let meter = number (column r 1) in
        let second = number (column r 2) in
        let owner = owner_at (number (column r 3)) in
        let told = row_told same_key same_key-decides (λ x. (assignment_in x).key) (λ x. owner_at (number (column x 3))) (db start_tree) r rows.starts.once m in
        let counted = sym (ap (λ (f : ℕ → ℕ → Option (Option AccountId)). f meter second) it.starts) ∙ told in
        let one = owner-one (contents_at (records_of_version v db) (assignment_key meter second)) owner counted in
        of (assignment_in r) (standing-part (records_of_version v db) (assignment_in r) ((one-is_counting (records_of_version v db) (assignment_entry meter second owner) tt).0 one).0)

    points_of_office : AllOfOffice office (map reading_in (db point_tree))
    points_of_office e m = let r = before_map reading_in e (db point_tree) m in subst (IsOfOffice office) (sym r.1.1) (point_of_office r.0 r.1.0)

    starts_of_office : AllOfOffice office (map assignment_in (db start_tree))
    starts_of_office e m = let r = before_map assignment_in e (db start_tree) m in subst (IsOfOffice office) (sym r.1.1) (start_of_office r.0 r.1.0)

    lasting_held : HoldsLasting office db
    lasting_held = record {
      points = record { rows = rows.points.each; once = rows.points.once; of_office = points_of_office };
      starts = record { rows = rows.starts.each; once = rows.starts.once; of_office = starts_of_office };
      payments = record { rows = all_two _ _ _ rows.payments.each named.payments; once = rows.payments.once };
    }

    held_by : (w : StoreVersion) → HasEnergiesOf w db → NamesEnergies w office db → HoldsSumsOf w office db
    held_by First has names = lasting_held
    held_by Second has names = lasting_held
    held_by Third has names = record {
      points = lasting_held.points;
      starts = lasting_held.starts;
      energies = record { rows = all_two _ _ _ has.rows.each names; once = has.rows.once };
      payments = lasting_held.payments;
      old = has.none;
    }

    pub sums_held : HoldsSumsOf v office db
    sums_held = held_by v rows.energies named.energies
