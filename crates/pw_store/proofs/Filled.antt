-- Totals of energy that are put by period where a store is brought to version 3: what is known of them once they were read
-- again, and of what the statements that put them leave.
use Rattle.std.proofs.Common.{◌≡◌, ◌≤◌, ◌<◌, ◌+◌, ◌⊎◌, inl, inr, ℕ, List, [], ◌∷◌, ◌++◌, true, false, IsTrue, map, filter, length, take, get_or, Option, Some, None, unwrap_or, Ok, Err, Result, OnErr, OnOk, refl, sym, ap, subst, subst₂, ◌∙◌, append_assoc, append-nil, arith}
use Rattle.std.proofs.lemmas.Bool.{cases_lt, lt-ltb}
use Rattle.std.specs.List.{AllByRecursion}
use Rattle.std.specs.List.Sorted.{IsPermutation}
use Rattle.std.proofs.lemmas.List.{take_more}
use Rattle.std.proofs.lemmas.List.Elements.{filter-append}
use Rattle.std.proofs.lemmas.List.Sorted.{IsPermutation-append, IsPermutation-append_comm, IsPermutation-middle, IsPermutation-refl, IsPermutation-sym, IsPermutation-trans}
use Rattle.sqlite.specs.declared.error.Error.{Error}
use Rattle.sqlite.specs.Order.{Row}
use Rattle.sqlite.specs.Schema.{Schema}
use Rattle.sqlite.specs.Tree.{Trees}
use Rattle.sqlite.specs.Effect.{Database}
use Rattle.sqlite.specs.State.{State, IsRolledBack, IsUnchanged, KeepsCommit, Survives}
use Rattle.sqlite.proofs.InsideLemmas.{unchanged_keeps}
use Rattle.pw_tariff.specs.declared.ids.AccountId.{AccountId}
use Rattle.pw_tariff.specs.declared.ids.BandId.{BandId}
use Rattle.pw_tariff.specs.declared.ids.Direction.{Direction}
use Rattle.pw_tariff.specs.declared.ids.PeriodId.{PeriodId}
use Rattle.pw_tariff.specs.Office.{OfficeRules}
use Rattle.pw_model.specs.declared.records.Entry.{Entry}
use Rattle.pw_model.specs.declared.records.TotalKey.{TotalKey}
use Rattle.pw_model.specs.declared.records.TotalKey.TheVariants as total
use Rattle.pw_model.specs.Counting.{EachOnce, IsInserted, Member}
use Rattle.pw_model.specs.Office.{most_records}
use Rattle.pw_model.specs.Shelf.{IsTrueContent, total_among}
use Rattle.pw_model.proofs.Answers.{period-same}
use Rattle.pw_parts.specs.declared.parts.Parts.{Parts}
use Rattle.pw_shelf.proofs.AtKey.{kept-member, member-kept}
use Rattle.pw_schema.specs.declared.kind.RecordKind.{RecordKind}
use Rattle.pw_schema.specs.declared.kind.RecordKind.TheVariants.{Readings, Assignments, TopUps, WithdrawnReadings, WithdrawnAssignments, WithdrawnTopUps}
use Rattle.pw_schema.specs.declared.kind.StoreVersion.{StoreVersion}
use Rattle.pw_schema.specs.declared.kind.StoreVersion.TheVariants.{Second, Third}
use Rattle.pw_schema.specs.declared.kind.TotalKind.TheVariants.{Energies}
use Rattle.pw_schema.specs.Fresh.{IsWithin}
use Rattle.pw_schema.specs.Judges.{IsRest, is_above_zero}
use Rattle.pw_schema.specs.Raised.{HasSame, lasting_trees}
use Rattle.pw_schema.specs.Tables.{schema_of}
use Rattle.pw_store.specs.declared.fault.OpenFault.{OpenFault}
use Rattle.pw_store.specs.declared.fault.OpenFault.TheVariants.{Store, Memory, OfficeDiffers, Version, Unclean}
use Rattle.pw_store.specs.Content.{IsRowOf, content_of, content_of_version, energy_told, energy_tree, entry_in, point_in, point_tree, records_of, start_in, start_tree, total_in, total_of_version, total_tree, tree_of}
use Rattle.pw_store.specs.Left.{IsFilled}
use Rattle.pw_store.specs.Opening.{HoldsRecords, HoldsTotals, IsSpoilt}
use Rattle.pw_store.specs.inner.Changing.{PutsEnergy, total_row}
use Rattle.pw_store.specs.inner.Filling.{AreTheEnergies, IsOfEngine, IsOfTopUps, LeavesTopUps, TellsMore, energies_among, energies_in, is_of_energy}
use Rattle.pw_store.specs.inner.Opened.{AreJudged, RowsRefuse}
use Rattle.pw_store.specs.inner.Sums.{TellsTotals}
use Rattle.pw_store.proofs.EnergyRows.{told_more}
use Rattle.pw_store.proofs.InTurn.{trees_same}
use Rattle.pw_store.proofs.Neighbours.{all_member}
use Rattle.pw_store.proofs.OfKinds.{member_front, member_in}
use Rattle.pw_store.proofs.OfParts.{amounts_read}
use Rattle.pw_store.proofs.Once.{permuted}
use Rattle.pw_store.proofs.Others.{records_kept}

-- ---- trees that are as they were
pub same_itself : (db : Trees) → HasSame lasting_trees db db
same_itself db = (refl, (refl, (refl, (refl, (refl, (refl, (refl, (refl, (refl, tt)))))))))

pub same_then : (a b c : Trees) → HasSame lasting_trees a b → HasSame lasting_trees b c → HasSame lasting_trees a c
same_then a b c r s = (
  s.0 ∙ r.0,
  (s.1.0 ∙ r.1.0, (s.1.1.0 ∙ r.1.1.0, (s.1.1.1.0 ∙ r.1.1.1.0, (s.1.1.1.1.0 ∙ r.1.1.1.1.0, (s.1.1.1.1.1.0 ∙ r.1.1.1.1.1.0, (s.1.1.1.1.1.1.0 ∙ r.1.1.1.1.1.1.0, (s.1.1.1.1.1.1.1.0 ∙ r.1.1.1.1.1.1.1.0, (s.1.1.1.1.1.1.1.1.0 ∙ r.1.1.1.1.1.1.1.1.0, tt)))))))),
)

pub records_on : (office : OfficeRules) (k : RecordKind) (before db : Trees) → db (tree_of k) ≡ before (tree_of k) → HoldsRecords office k before → HoldsRecords office k db
records_on office k before db same it = record {
  rows = subst (AllByRecursion (IsRowOf k)) (sym same) it.rows;
  once = subst (λ (rows : List Row). EachOnce (map (entry_in k) rows)) (sym same) it.once;
  of_office = λ e m. it.of_office e (subst (λ (rows : List Row). Member e (map (entry_in k) rows)) same m);
}

module _ (before db : Trees) (same : HasSame lasting_trees before db) where
  pub kinds_on : (k : RecordKind) → db (tree_of k) ≡ before (tree_of k)
  kinds_on Readings = same.0
  kinds_on Assignments = same.1.0
  kinds_on TopUps = same.1.1.0
  kinds_on WithdrawnReadings = same.1.1.1.1.1.1.0
  kinds_on WithdrawnAssignments = same.1.1.1.1.1.1.1.0
  kinds_on WithdrawnTopUps = same.1.1.1.1.1.1.1.1.0

  pub all_on : records_of db ≡ records_of before
  all_on = records_kept before db kinds_on

  pub judged_on : (office : OfficeRules) (parts : Parts) → AreJudged office before parts → AreJudged office db parts
  judged_on office parts it = record {
    all = λ k at. records_on office k before db (kinds_on k) (it.all k at);
    few = subst (λ (s : List Entry). length s ≤ most_records) (sym all_on) it.few;
    parts_of = (it.parts_of.0, subst (λ (s : List Entry). IsPermutation s it.parts_of.0) (sym all_on) it.parts_of.1, it.parts_of.2);
  }

-- a connection that is as it was
pub within_on : (schema : Schema) (old new : State) → IsUnchanged old new → IsWithin schema old → IsWithin schema new
within_on schema old new same it = record {
  is_open = same.0.is_open;
  inside = same.0.mode ∙ it.inside;
  schema_is = ap (λ (d : Database). d.schema) same.0.now_is ∙ it.schema_is;
}

pub filled_on : (office : OfficeRules) (old new : State) → IsUnchanged old new → IsFilled office old.now.trees → IsFilled office new.now.trees
filled_on office old new same it = subst (IsFilled office) (sym (trees_same old new same)) it

-- one call behind the other
pub kept_then : (a b c : State) → KeepsCommit a b → KeepsCommit b c → KeepsCommit a c
kept_then a b c one two = record { was_open = λ live. one.was_open (two.was_open live); committed = λ live. two.committed live ∙ one.committed (two.was_open live) }

pub kept_itself : (s : State) → KeepsCommit s s
kept_itself s = record { was_open = λ live. live; committed = λ live. refl }

-- a call that does nothing leaves what was left before
pub survives_itself : (s : State) (P : Trees → Type 0) → Survives s s P
survives_itself s P = record {
  clean = omega arith;
  shield = λ shielded. shielded;
  counts = omega arith;
  limit = refl;
  closes = λ clean live. inl live;
  crash = λ clean db may. inl may;
}

-- ---- a row that is put
module _ (given : Row) (old new : State) where
  others : PutsEnergy given old new → HasSame lasting_trees old.now.trees new.now.trees
  others it =
      let t = it.applied.tables in
      (t.1.0 (λ e. absurd (omega (arith, e))), (t.1.1.0 (λ e. absurd (omega (arith, e))), (t.1.1.1.0 (λ e. absurd (omega (arith, e))), (t.1.1.1.1.0 (λ e. absurd (omega (arith, e))), (t.1.1.1.1.1.0 (λ e. absurd (omega (arith, e))), (t.1.1.1.1.1.1.1.0 (λ e. absurd (omega (arith, e))), (t.1.1.1.1.1.1.1.1.0 (λ e. absurd (omega (arith, e))), (t.1.1.1.1.1.1.1.1.1.0 (λ e. absurd (omega (arith, e))), (t.1.1.1.1.1.1.1.1.1.1.0 (λ e. absurd (omega (arith, e))), tt)))))))))

  pub put_within : (r : Result ℕ Error) → OnOk r (PutsEnergy given old new) → OnOk r (IsWithin (schema_of Third) new)
  put_within (Err e) it = tt
  put_within (Ok n) it = record { is_open = it.shows.is_open; inside = it.shows.mode; schema_is = it.ours }

  pub put_same : (r : Result ℕ Error) → OnOk r (PutsEnergy given old new) → OnOk r (HasSame lasting_trees old.now.trees new.now.trees)
  put_same (Err e) it = tt
  put_same (Ok n) it = others it

  pub put_kept : (r : Result ℕ Error) → OnOk r (PutsEnergy given old new) → OnErr r (IsUnchanged old new ⊎ IsRolledBack old new) → KeepsCommit old new
  put_kept (Ok n) it failed = record { was_open = λ _. it.shows.was_open; committed = λ _. it.shows.committed_is }
  put_kept (Err e) it failed = unchanged_keeps old new failed

-- ---- the totals that are told
one_more : {X : Type 0} (x : X) (old new : List X) → IsInserted x old new → IsPermutation (old ++ x ∷ []) new
one_more x old new i =
    subst₂ (λ xs ys. IsPermutation (xs ++ x ∷ []) ys) (sym i.2) (sym i.3)
    (IsPermutation-trans ((i.0 ++ i.1) ++ x ∷ []) (x ∷ (i.0 ++ i.1)) (i.0 ++ x ∷ i.1) (IsPermutation-append_comm (i.0 ++ i.1) (x ∷ [])) (IsPermutation-sym (i.0 ++ x ∷ i.1) (x ∷ (i.0 ++ i.1)) (IsPermutation-middle i.0 x i.1)))

pub put_told : (k : TotalKey) (v : ℕ) (old new : State) (r : Result ℕ Error) → IsTrue (is_of_energy k) → OnOk r (PutsEnergy (total_row k (Some v)) old new) → OnOk r (TellsMore ((k, v) ∷ []) old.now.trees new.now.trees)
put_told k v old new (Err e) of it = tt
put_told (total.Energy o p b d) v old new (Ok n) of it = one_more (total.Energy o p b d, v) (energies_in old.now.trees) (energies_in new.now.trees) (told_more old new o p b d v it)
put_told (total.TopUps a) v old new (Ok n) of it = absurd (let bad : false ≡ true = of in cc)

pub told_itself : (db : Trees) → TellsMore [] db db
told_itself db = subst (λ xs. IsPermutation xs (energies_in db)) (sym (append-nil (energies_in db))) (IsPermutation-refl (energies_in db))

told_then : (old now new : Trees) (done : List (TotalKey × ℕ)) (next : TotalKey × ℕ) → TellsMore done old now → TellsMore (next ∷ []) now new → TellsMore (done ++ next ∷ []) old new
told_then old now new done next before more =
    let one = energies_among (next ∷ []) in
    let both = ap (λ xs. energies_in old ++ xs) (filter-append (λ (t : TotalKey × ℕ). is_of_energy t.0) done (next ∷ [])) ∙ sym (append_assoc (energies_in old) (energies_among done) one) in
    subst (λ xs. IsPermutation xs (energies_in new)) (sym both)
    (IsPermutation-trans ((energies_in old ++ energies_among done) ++ one) (energies_in now ++ one) (energies_in new)
    (IsPermutation-append (energies_in old ++ energies_among done) (energies_in now) one one before (IsPermutation-refl one)) more)

-- one more of a list
pub told_further : (totals : List (TotalKey × ℕ)) (i : ℕ) (d : TotalKey × ℕ) (old now new : Trees) → i < length totals → TellsMore (take i totals) old now → TellsMore (get_or totals i d ∷ []) now new → TellsMore (take (i + 1) totals) old new
told_further totals i d old now new lt before more = subst (λ (done : List (TotalKey × ℕ)). TellsMore done old new) (sym (take_more totals i d lt)) (told_then old now new (take i totals) (get_or totals i d) before more)

-- ---- what was read again
pub are_the_energies : (totals found : List (TotalKey × ℕ)) (rest : Option (List (TotalKey × ℕ))) → IsRest (Some totals) (filter is_above_zero found) rest → LeavesTopUps rest → AreTheEnergies totals found
are_the_energies totals found None is left = absurd left
are_the_energies totals found (Some rest) is left = record { rest = rest; whole = is; behind = left }

-- what is told of a total, and what it is
same_amount : (told : Option ℕ) (n : ℕ) → ((v : ℕ) → 0 < v → told ≡ Some v → v ≡ n) → (0 < n → told ≡ Some n) → unwrap_or told 0 ≡ n
same_amount None n up down = elim (cases_lt 0 n) [
  | inl above ↦ absurd (let bad : None ≡ Some n = down above in cc)
  | inr none ↦ (let zero : 0 ≡ n = omega (arith, none) in zero)
]
same_amount (Some v) n up down = elim (cases_lt 0 v) [
  | inl above ↦ up v above refl
  | inr zero ↦ elim (cases_lt 0 n) [
    | inl above ↦ (let same : Some v ≡ Some n = down above in cc)
    | inr none ↦ (let same : v ≡ n = omega (arith, zero, none) in same)
  ]
]

module _ (office : OfficeRules) (db : Trees) (parts : Parts) (found : List (TotalKey × ℕ)) (judged : AreJudged office db parts)
    (holds : HoldsTotals office Energies (db energy_tree)) (tells : TellsTotals Energies (db energy_tree) found) (these : AreTheEnergies parts.totals.items found) where
  abbrev records : List Entry
  records = judged.parts_of.0

  -- the amount of a row above 0 is that of the records
  row_true : (k : TotalKey) (n : ℕ) → 0 < n → energy_told (db energy_tree) k ≡ Some n → n ≡ total_among office records k
  row_true k n lt told =
      let one = (amounts_read Energies (db energy_tree) found tells.told holds.once k n).0 told in
      let kept = kept-member is_above_zero found (k, n) one (lt-ltb 0 n lt) in
      let among : Member (k, n) parts.totals.items = subst (Member (k, n)) (sym these.whole) (member_front (k, n) (filter is_above_zero found) these.rest kept) in
      ((judged.parts_of.2.totals.members (k, n)).0 among).0

  -- and where they have such an amount, a row tells it
  true_told : (o : Option AccountId) (p : PeriodId) (b : BandId) (d : Direction) (n : ℕ) → 0 < n → n ≡ total_among office records (total.Energy o p b d) → energy_told (db energy_tree) (total.Energy o p b d) ≡ Some n
  true_told o p b d n lt is =
      let among : Member (total.Energy o p b d, n) parts.totals.items = (judged.parts_of.2.totals.members (total.Energy o p b d, n)).1 (is, lt) in
      let one : Member (total.Energy o p b d, n) found = elim (member_in (total.Energy o p b d, n) (filter is_above_zero found) these.rest (subst (Member (total.Energy o p b d, n)) these.whole among)) [
        | inl front ↦ (member-kept is_above_zero found (total.Energy o p b d, n) front).0
        | inr behind ↦ absurd (all_member (λ (t : TotalKey × ℕ). IsOfTopUps t.0) these.rest (total.Energy o p b d, n) these.behind behind)
      ] in
      (amounts_read Energies (db energy_tree) found tells.told holds.once (total.Energy o p b d) n).1 one

  told_true : (o : Option AccountId) (p : PeriodId) (b : BandId) (d : Direction) → total_in db (total.Energy o p b d) ≡ total_among office (records_of db) (total.Energy o p b d)
  told_true o p b d =
      same_amount (energy_told (db energy_tree) (total.Energy o p b d)) (total_among office records (total.Energy o p b d)) (row_true (total.Energy o p b d)) (λ above. true_told o p b d _ above refl)
      ∙ sym (period-same office (records_of db) records (permuted (records_of db) records judged.parts_of.1) o p.0 b.0 d)

  pub filled : db total_tree ≡ [] → IsFilled office db
  filled none = record { energies = holds; old = none; told = told_true }

-- ---- as a store of version 2, of whose energies nothing is asked
module _ (office : OfficeRules) (db : Trees) (it : IsFilled office db) where
  same_totals : total_in db ≡ total_of_version office Second db
  same_totals = λ i k. go k i
    where
      go : (k : TotalKey) → total_in db k ≡ total_of_version office Second db k
      go (total.Energy o p b d) = it.told o p b d
      go (total.TopUps a) = refl

  pub filled_content : content_of db ≡ content_of_version office Second db
  filled_content = λ i. record {
    records = records_of db;
    point = point_in (db point_tree);
    start = start_in (db start_tree);
    total = same_totals i;
  }

  pub filled_spoilt : IsSpoilt Third office db → IsSpoilt Second office db
  filled_spoilt (inl none) = inl none
  filled_spoilt (inr (inl many)) = inr (inl many)
  filled_spoilt (inr (inr (inl none))) = inr (inr (inl (λ lasting. none (record {
    points = lasting.points;
    starts = lasting.starts;
    energies = it.energies;
    payments = lasting.payments;
    old = it.old;
  }))))
  filled_spoilt (inr (inr (inr untrue))) = inr (inr (inr (λ truth. untrue (subst (IsTrueContent office) (sym filled_content) truth))))

  pub filled_refuses : (fault : OpenFault) → RowsRefuse Third office db fault → RowsRefuse Second office db fault
  filled_refuses Store r = tt
  filled_refuses Memory r = tt
  filled_refuses OfficeDiffers r = r
  filled_refuses Version r = r
  filled_refuses Unclean r = filled_spoilt r

-- ---- what the engine doesn't do is no fault of the rows
pub engine_refuses : (v : StoreVersion) (office : OfficeRules) (db : Trees) (fault : OpenFault) → IsOfEngine fault → RowsRefuse v office db fault
engine_refuses v office db Store it = tt
engine_refuses v office db Memory it = tt
engine_refuses v office db OfficeDiffers it = elim it [ inl i ↦ absurd cc | inr i ↦ absurd cc ]
engine_refuses v office db Version it = elim it [ inl i ↦ absurd cc | inr i ↦ absurd cc ]
engine_refuses v office db Unclean it = elim it [ inl i ↦ absurd cc | inr i ↦ absurd cc ]
