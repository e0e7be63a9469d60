-- What a crash may leave of a store opens again.
use Rattle.std.proofs.Common.{◌≡◌, ◌⊎◌, inl, inr, ℕ, pos, ◌<◌, true, ◌&&◌, List, [], map, Option, Some, None, Result, Ok, Err, IfOk, IfErr, unwrap_or, refl, sym, ap, subst, ◌∙◌, arith}
use Rattle.std.proofs.lemmas.Bool.{cases_lt}
use Rattle.std.specs.List.{AllByRecursion, filter}
use Rattle.std.specs.List.Sorted.{IsPermutation}
use Rattle.sqlite.specs.declared.types.Value.TheVariants.{Int}
use Rattle.sqlite.specs.Order.{Row, column}
use Rattle.sqlite.specs.Ops.{binary, is_true}
use Rattle.sqlite.specs.Tree.{Trees}
use Rattle.sqlite.specs.Effect.{Database}
use Rattle.sqlite.specs.State.{State}
use Rattle.sqlite_value.specs.declared.keys.Collation.TheVariants.{Binary}
use Rattle.sqlite_sql.specs.declared.ops.BinaryOp.TheVariants.{Compare}
use Rattle.sqlite_sql.specs.declared.ops.CompareOp.TheVariants.{Eq}
use Rattle.pw_tariff.specs.declared.ids.AccountId.{AccountId}
use Rattle.pw_tariff.specs.declared.ids.BandId.{BandId}
use Rattle.pw_tariff.specs.declared.ids.Direction.{Direction}
use Rattle.pw_tariff.specs.declared.ids.PeriodId.{PeriodId}
use Rattle.pw_tariff.specs.Office.{OfficeFile, OfficeRules, office_of}
use Rattle.pw_tariff.specs.Text.{IsOfficeOf}
use Rattle.pw_tariff.proofs.Answered.{bands-of, office-sound}
use Rattle.pw_model.specs.declared.records.TotalKey.TheVariants as total
use Rattle.pw_model.specs.Counting.{Member}
use Rattle.pw_model.specs.Office.{AllOfOffice, HasBands, HasOwner, HasPeriods}
use Rattle.pw_model.specs.Shelf.{IsTrueContent, ShelfContent, total_among}
use Rattle.pw_model.proofs.Foreign.{foreign-totals_are_none}
use Rattle.pw_shelf.specs.Changes.{same_total}
use Rattle.sqlite.specs.Listing.{shown}
use Rattle.sqlite_rules.specs.Edit.{put_all}
use Rattle.pw_schema.specs.Conflicts.{AreWithoutConflict, IsWithoutConflict, only_text}
use Rattle.pw_schema.specs.Judging.{IsTotalOf}
use Rattle.pw_schema.specs.Rows.{direction_at, number, owner_at}
use Rattle.pw_schema.specs.Tables.{IsOurs}
use Rattle.pw_schema.specs.declared.kind.StoreVersion.TheVariants.{Third}
use Rattle.pw_store.specs.declared.fault.OpenFault.{OpenFault}
use Rattle.pw_store.specs.declared.fault.OpenFault.TheVariants.{Store, Memory}
use Rattle.pw_store.specs.Content.{content_of, energy_in, energy_told, energy_tree, payment_in, payment_told, payment_tree, records_of, total_in}
use Rattle.pw_store.specs.Left.{IsLeftBehind, IsLeftSound, IsOldEnergy, IsOldPayment, Keeps, KeepsOpened, LeftOpens}
use Rattle.pw_store.specs.Opening.{HasRows, IsFound, IsOpenable, KeepsText, NamesOffice, Refuses, offices, shown_office}
use Rattle.pw_store.proofs.KeyedRows.{row_told, told_row}
use Rattle.pw_store.proofs.LeftStores.{all_members}
use Rattle.pw_store.proofs.Neighbours.{all_member}
use Rattle.pw_store.proofs.Openable.{opens_version}
use Rattle.pw_store.proofs.Others.{same_total-decides}
use Rattle.pw_store.proofs.Reopening.{found_ours}

something : {A : Type 0} (o : Option A) → (o ≡ None → ⊥) → (a : A) × (o ≡ Some a)
something None some = absurd (some refl)
something (Some a) some = (a, refl)

owner_or_none : (office : OfficeRules) (o : Option AccountId) → HasOwner office o ⊎ (HasOwner office o → ⊥)
owner_or_none office None = inl tt
owner_or_none office (Some a) = elim (cases_lt a.0 office.accounts) [ inl low ↦ inl low | inr high ↦ inr (λ low. omega (arith, high, low)) ]

-- ---- a total above 0 names what the office has
module _ (office : OfficeRules) (periods : HasPeriods office) (bands : HasBands office) (db : Trees) (of : AllOfOffice office (records_of db)) where
  energy_above : (o : Option AccountId) (p : PeriodId) (b : BandId) (d : Direction) → 0 < total_among office (records_of db) (total.Energy o p b d) → IsTotalOf office (total.Energy o p b d)
  energy_above o p b d above = (owner, period, band)
    where
      owner : HasOwner office o
      owner = elim (owner_or_none office o) [
        | inl has ↦ has
        | inr none ↦ absurd (let zero = (foreign-totals_are_none office (records_of db)).owners of o p b d none in omega (arith, above, zero))
      ]

      period : p.0 < office.periods
      period = elim (cases_lt p.0 office.periods) [
        | inl low ↦ low
        | inr high ↦ absurd (let zero = (foreign-totals_are_none office (records_of db)).periods periods o p b d high in omega (arith, above, zero))
      ]

      band : b.0 < office.bands
      band = elim (cases_lt b.0 office.bands) [
        | inl low ↦ low
        | inr high ↦ absurd (let zero = (foreign-totals_are_none office (records_of db)).bands bands o p b d high in omega (arith, above, zero))
      ]

  payment_above : (a : AccountId) → 0 < total_among office (records_of db) (total.TopUps a) → IsTotalOf office (total.TopUps a)
  payment_above a above = elim (cases_lt a.0 office.accounts) [
    | inl low ↦ low
    | inr high ↦ absurd (let zero = (foreign-totals_are_none office (records_of db)).top_ups of a high in omega (arith, above, zero))
  ]

  -- ---- each total that is kept does
  module _ (before : Trees) (keeps : Keeps before db) (rows : HasRows Third db) (named : NamesOffice Third office before) (truth : IsTrueContent office (content_of db)) where
    energy_named : (r : Row) → Member r (db energy_tree) → IsTotalOf office (energy_in r)
    energy_named r m = elim (cases_lt 0 (number (column r 5))) [
      | inl above ↦ (
          let told = row_told same_total same_total-decides energy_in (λ x. number (column x 5)) (db energy_tree) r rows.energies.rows.once m in
          let is : total_in db (energy_in r) ≡ number (column r 5) = ap (λ o. unwrap_or o 0) told in
          let true_one : total_in db (energy_in r) ≡ total_among office (records_of db) (energy_in r) = truth.totals (energy_in r) in
          energy_above (owner_at (number (column r 1))) (record { 0 = number (column r 2) }) (record { 0 = number (column r 3) }) (direction_at (number (column r 4))) (subst (λ n. 0 < n) (sym is ∙ true_one) above))
      | inr none ↦ (
          let old = all_member (IsOldEnergy before) (db energy_tree) r keeps.energies m in
          let had = something (energy_told (before energy_tree) (energy_in r)) (old (omega (arith, none))) in
          let row = told_row same_total same_total-decides energy_in (λ x. number (column x 5)) (before energy_tree) (energy_in r) had.0 had.1 in
          subst (IsTotalOf office) row.1.1.0 (all_member (λ x. IsTotalOf office (energy_in x)) (before energy_tree) row.0 named.energies row.1.0))
    ]

    payment_named : (r : Row) → Member r (db payment_tree) → IsTotalOf office (payment_in r)
    payment_named r m = elim (cases_lt 0 (number (column r 2))) [
      | inl above ↦ (
          let told = row_told same_total same_total-decides payment_in (λ x. number (column x 2)) (db payment_tree) r rows.payments.once m in
          let is : total_in db (payment_in r) ≡ number (column r 2) = ap (λ o. unwrap_or o 0) told in
          let true_one : total_in db (payment_in r) ≡ total_among office (records_of db) (payment_in r) = truth.totals (payment_in r) in
          payment_above (record { 0 = number (column r 0) }) (subst (λ n. 0 < n) (sym is ∙ true_one) above))
      | inr none ↦ (
          let old = all_member (IsOldPayment before) (db payment_tree) r keeps.payments m in
          let had = something (payment_told (before payment_tree) (payment_in r)) (old (omega (arith, none))) in
          let row = told_row same_total same_total-decides payment_in (λ x. number (column x 2)) (before payment_tree) (payment_in r) had.0 had.1 in
          subst (IsTotalOf office) row.1.1.0 (all_member (λ x. IsTotalOf office (payment_in x)) (before payment_tree) row.0 named.payments row.1.0))
    ]

    pub names : NamesOffice Third office db
    names = record {
      energies = all_members (λ r. IsTotalOf office (energy_in r)) (db energy_tree) energy_named;
      payments = all_members (λ r. IsTotalOf office (payment_in r)) (db payment_tree) payment_named;
    }

-- ---- the row of `office` is that of before
keeps_text : (Kept : List Row → Type 0) (before db : Trees) → Keeps before db → KeepsText Kept before → KeepsText Kept db
keeps_text Kept before db keeps text =
    let same : offices before ≡ offices db = ap (λ (rows : List Row). map shown_office (filter (λ r. is_true (binary (Compare Eq Binary) (column r 0) (Int (pos 1))) && true) rows)) (sym keeps.office) in
    (text.0, (subst (λ rows. IsPermutation rows text.0) same text.1.0, text.1.1))

-- ---- and so are the texts of the objects
keeps_plain : (before db : Trees) → Keeps before db → AreWithoutConflict before → AreWithoutConflict db
keeps_plain before db keeps plain = subst (λ (rows : List Row). AllByRecursion IsWithoutConflict (map only_text (put_all [] (map shown rows)))) (sym keeps.listed) plain

-- ---- what is left
module _ (s opened : State) (was : KeepsOpened s opened) (office : OfficeFile) (body : List ℕ) (found : Database) (is : IsOfficeOf body office) (it : IsLeftSound s opened (office_of office) body found) where
  left : HasRows Third found.trees × Keeps opened.now.trees found.trees
  left = (was it.clean).left found.trees it.left

  ours : IsOurs found.schema
  ours = (was it.clean).ours found it.database left.1.listed

  pub openable : IsOpenable Third (office_of office) body found
  openable = record {
    ours = record { schema_is = ours; plain = keeps_plain opened.now.trees found.trees left.1 it.text.1.1 };
    text = keeps_text _ opened.now.trees found.trees left.1 it.text.0;
    rows = left.0;
    named = names (office_of office) (λ t. (bands-of office (office-sound body office is) t).period) (λ t. (bands-of office (office-sound body office is) t).band) found.trees it.sound.of_office opened.now.trees left.1 left.0 it.text.1.0 it.sound.truth;
    of_office = it.sound.of_office;
    few = it.sound.few;
    truth = it.sound.truth;
  }

  pub left_ours : IsOurs found.schema
  left_ours = ours

pub left_opens : (s opened : State) → KeepsOpened s opened → LeftOpens s opened
left_opens s opened was office body found is it fault = opens_version Third (office_of office) body found fault (openable s opened was office body found is it)

-- ---- opened again
module _ {A E : Type 0} (s opened found : State) (was : KeepsOpened s opened) (body : List ℕ) (it : IsLeftBehind s opened body found) where
  pub refused_again : (CleanAt : E → Type 0) (fault : E → OpenFault) (r : Result A E)
      → IfErr r (λ e. CleanAt e → (office : OfficeFile) × IsOfficeOf body office × Refuses (office_of office) body found.committed (fault e))
      → IfErr r (λ e. CleanAt e → (fault e ≡ Store) ⊎ (fault e ≡ Memory))
  refused_again CleanAt fault (Ok a) cause = tt
  refused_again CleanAt fault (Err e) cause = λ clean. let why = cause clean in left_opens s opened was why.0 body found.committed why.1 (it why.0 why.1) (fault e) why.2

  pub content_again : (CleanAt : A → Type 0) (held : A → ShelfContent) (r : Result A E)
      → IfOk r (λ a. CleanAt a → (office : OfficeFile) × IsOfficeOf body office × IsFound (office_of office) found.committed (held a))
      → IfOk r (λ a. CleanAt a → held a ≡ content_of found.committed.trees)
  content_again CleanAt held (Err e) content = tt
  content_again CleanAt held (Ok a) content = λ clean. let why = content clean in found_ours (office_of why.0) found.committed (held a) (left_ours s opened was why.0 body found.committed why.1 (it why.0 why.1)) why.2
