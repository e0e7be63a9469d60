-- A store of an earlier version brought to version 3: its content, and what refuses its rows.
use Rattle.std.proofs.Common.{◌≡◌, ◌≤◌, inl, inr, Result, Ok, Err, IfErr, OnOk, OnErr, ℕ, false, List, [], map, unwrap_or, length, refl, sym, ap, subst, ◌∙◌, arith}
use Rattle.std.specs.List.{AllByRecursion}
use Rattle.std.specs.List.Sorted.{IsPermutation}
use Rattle.std.proofs.lemmas.Result.{IfErr-weaker}
use Rattle.sqlite.specs.Order.{Row}
use Rattle.sqlite.specs.Tree.{Trees}
use Rattle.sqlite.specs.Effect.{Database, IsDatabase}
use Rattle.sqlite.specs.State.{State, HasCleanDisk, IsUnchanged, Shows, Survives}
use Rattle.sqlite.proofs.StateLemmas.{survives_then, survives_weaker}
use Rattle.pw_tariff.specs.Office.{OfficeRules}
use Rattle.pw_model.specs.declared.records.Entry.{Entry}
use Rattle.pw_model.specs.declared.records.TotalKey.{TotalKey}
use Rattle.pw_model.specs.declared.records.TotalKey.TheVariants as total
use Rattle.pw_model.specs.Counting.{EachOnce, Member}
use Rattle.pw_model.specs.Office.{AllOfOffice, most_records}
use Rattle.pw_model.specs.Shelf.{IsTrueContent, total_among}
use Rattle.pw_schema.specs.Conflicts.{AreWithoutConflict}
use Rattle.pw_schema.specs.declared.kind.RecordKind.{RecordKind}
use Rattle.pw_schema.specs.declared.kind.RecordKind.TheVariants.{Readings, Assignments, TopUps, WithdrawnReadings, WithdrawnAssignments, WithdrawnTopUps}
use Rattle.pw_schema.specs.Tables.{BeginsAsOurs, IsEarlier, IsOf, no_schema, schema_of}
use Rattle.pw_schema.specs.declared.kind.TotalKind.TheVariants.{Payments}
use Rattle.pw_schema.specs.declared.kind.StoreVersion.{StoreVersion}
use Rattle.pw_schema.specs.declared.kind.StoreVersion.TheVariants.{First, Second, Third}
use Rattle.pw_schema.specs.Fresh.{IsIdleAt, IsWithin}
use Rattle.pw_schema.specs.Judging.{HasOtherText, HasVersion, IsTotalOf, KeepsOffice, KeepsVersion}
use Rattle.pw_schema.specs.Raised.{HasSame, IsRaised, lasting_trees}
use Rattle.pw_schema.proofs.Outcomes.{early}
use Rattle.pw_schema.proofs.Raising.{raised_on}
use Rattle.pw_store.specs.Content.{IsAssignmentRow, IsReadingRow, IsRowOf, content_of, content_of_version, entry_in, kinds_of, payment_in, payment_told, payment_tree, point_in, point_tree, records_of, records_of_version, start_in, start_tree, total_of_version, tree_of}
use Rattle.pw_store.specs.Keyed.{IsPaymentRow}
use Rattle.pw_store.specs.Kept.{key_in_point, key_in_start}
use Rattle.pw_store.specs.Left.{IsFilled, IsUpgraded, MayBeMade, MayBeUpgraded}
use Rattle.pw_store.specs.Opening.{AreRows, BegunRefuses, HasEnergiesOf, HasRows, HoldsAllRecords, HoldsKept, HoldsLasting, HoldsRecords, HoldsSumsOf, HoldsTables, HoldsTotals, IsOpenable, IsSpoilt, KeepsText, NamesEnergies, Refuses, offices}
use Rattle.pw_store.specs.inner.Opened.{IsOpened, IsReady, IsSound, MayOpen, RowRefuses, RowsRefuse}
use Rattle.pw_store.specs.declared.fault.OpenFault.{OpenFault}
use Rattle.pw_store.specs.declared.fault.OpenFault.TheVariants.{Store, Memory, OfficeDiffers, Version, Unclean}
use Rattle.pw_store.proofs.Filled.{all_on, filled_content, kinds_on, records_on, within_on}
use Rattle.pw_store.proofs.LeftStores.{rows_of}

-- ---- what has stayed
pub same_point : (v : StoreVersion) (before db : Trees) → IsRaised v before db → db point_tree ≡ before point_tree
same_point First before db h = h.same.1.1.1.0
same_point Second before db h = h.same.1.1.1.0
same_point Third before db h = h.same.1.1.1.0

pub same_start : (v : StoreVersion) (before db : Trees) → IsRaised v before db → db start_tree ≡ before start_tree
same_start First before db h = h.same.1.1.1.1.0
same_start Second before db h = h.same.1.1.1.1.0
same_start Third before db h = h.same.1.1.1.1.0

pub same_payment : (v : StoreVersion) (before db : Trees) → IsRaised v before db → db payment_tree ≡ before payment_tree
same_payment First before db h = h.same.1.1.1.1.1.0
same_payment Second before db h = h.same.1.1.1.1.1.0
same_payment Third before db h = h.same.1.1.1.1.1.0

pub raised_records : (v : StoreVersion) (before db : Trees) → IsRaised v before db → records_of db ≡ records_of_version v before
raised_records First before db h = rw (h.same.0, h.same.1.0, h.same.1.1.0, h.empty.0, h.empty.1.0, h.empty.1.1.0) refl
raised_records Second before db h = all_on before db h.same
raised_records Third before db h = all_on before db h.same

module _ (office : OfficeRules) (before db : Trees) where
  -- of totals of energy, those that the records give stand for what an earlier version keeps
  same_totals : (v : StoreVersion) → IsEarlier v → IsRaised v before db → total_of_version office Second db ≡ total_of_version office v before
  same_totals First earlier h = λ i k. go k i
    where
      go : (k : TotalKey) → total_of_version office Second db k ≡ total_of_version office First before k
      go (total.Energy o p b d) = ap (λ (s : List Entry). total_among office s (total.Energy o p b d)) (raised_records First before db h)
      go (total.TopUps a) = ap (λ (rows : List Row). unwrap_or (payment_told rows (total.TopUps a)) 0) (same_payment First before db h)
  same_totals Second earlier h = λ i k. go k i
    where
      go : (k : TotalKey) → total_of_version office Second db k ≡ total_of_version office Second before k
      go (total.Energy o p b d) = ap (λ (s : List Entry). total_among office s (total.Energy o p b d)) (raised_records Second before db h)
      go (total.TopUps a) = ap (λ (rows : List Row). unwrap_or (payment_told rows (total.TopUps a)) 0) (same_payment Second before db h)
  same_totals Third earlier h = absurd earlier

  pub raised_content : (v : StoreVersion) → IsEarlier v → IsRaised v before db → content_of_version office Second db ≡ content_of_version office v before
  raised_content v earlier h = λ i. record {
    records = raised_records v before db h i;
    point = ap point_in (same_point v before db h) i;
    start = ap start_in (same_start v before db h) i;
    total = same_totals v earlier h i;
  }

  -- ---- where its rows are refused, so are those of before
  no_records : (k : RecordKind) → db (tree_of k) ≡ [] → HoldsRecords office k db
  no_records k none = record {
    rows = subst (AllByRecursion (IsRowOf k)) (sym none) tt;
    once = subst (λ (rows : List Row). EachOnce (map (entry_in k) rows)) (sym none) tt;
    of_office = λ e m. absurd (subst (λ (rows : List Row). Member e (map (entry_in k) rows)) none m);
  }

  all_records : (v : StoreVersion) → IsRaised v before db → HoldsAllRecords v office before → HoldsAllRecords Second office db
  all_records First h all Readings at = records_on office Readings before db h.same.0 (all Readings (inl refl))
  all_records First h all Assignments at = records_on office Assignments before db h.same.1.0 (all Assignments (inr (inl refl)))
  all_records First h all TopUps at = records_on office TopUps before db h.same.1.1.0 (all TopUps (inr (inr (inl refl))))
  all_records First h all WithdrawnReadings at = no_records WithdrawnReadings h.empty.0
  all_records First h all WithdrawnAssignments at = no_records WithdrawnAssignments h.empty.1.0
  all_records First h all WithdrawnTopUps at = no_records WithdrawnTopUps h.empty.1.1.0
  all_records Second h all k at = records_on office k before db (kinds_on before db h.same k) (all k at)
  all_records Third h all k at = records_on office k before db (kinds_on before db h.same k) (all k at)

  lasting_of : (v : StoreVersion) → IsEarlier v → HoldsSumsOf v office before → HoldsLasting office before
  lasting_of First earlier sums = sums
  lasting_of Second earlier sums = sums
  lasting_of Third earlier sums = absurd earlier

  all_lasting : (v : StoreVersion) → IsRaised v before db → HoldsLasting office before → HoldsLasting office db
  all_lasting v h s = record {
    points = subst (HoldsKept office Readings) (sym (same_point v before db h)) s.points;
    starts = subst (HoldsKept office Assignments) (sym (same_start v before db h)) s.starts;
    payments = subst (HoldsTotals office Payments) (sym (same_payment v before db h)) s.payments;
  }

  spoilt_before : (v : StoreVersion) → IsEarlier v → IsRaised v before db → IsSpoilt Second office db → IsSpoilt v office before
  spoilt_before v earlier h (inl none) = inl (λ all. none (all_records v h all))
  spoilt_before v earlier h (inr (inl many)) = inr (inl (let same = ap length (raised_records v before db h) in omega (arith, same, many)))
  spoilt_before v earlier h (inr (inr (inl none))) = inr (inr (inl (λ sums. none (all_lasting v h (lasting_of v earlier sums)))))
  spoilt_before v earlier h (inr (inr (inr untrue))) = inr (inr (inr (λ truth. untrue (subst (IsTrueContent office) (sym (raised_content v earlier h)) truth))))

  pub refused_before : (v : StoreVersion) → IsEarlier v → IsRaised v before db → (fault : OpenFault) → RowsRefuse Second office db fault → RowsRefuse v office before fault
  refused_before v earlier h Store r = tt
  refused_before v earlier h Memory r = tt
  refused_before v earlier h OfficeDiffers r = r
  refused_before v earlier h Version r = r
  refused_before v earlier h Unclean r = spoilt_before v earlier h r

-- where the rows that stay are the same, the one is refused for what the other is
pub refused_on : (office : OfficeRules) (before db : Trees) → HasSame lasting_trees before db → (fault : OpenFault) → RowsRefuse Second office db fault → RowsRefuse Second office before fault
refused_on office before db same fault r = refused_before office before db Second tt (record { same = same; empty = tt }) fault r

-- ---- a store of an earlier version that was raised to a sound one opens
kinds_before : (v : StoreVersion) (before db : Trees) → IsRaised v before db → ((k : RecordKind) → Member k (kinds_of Third) → AllByRecursion (IsRowOf k) (db (tree_of k))) → (k : RecordKind) → Member k (kinds_of v) → AllByRecursion (IsRowOf k) (before (tree_of k))
kinds_before First before db h rows k (inl e) = subst (λ j. AllByRecursion (IsRowOf j) (before (tree_of j))) (sym e) (subst (AllByRecursion (IsRowOf Readings)) h.same.0 (rows Readings (inl refl)))
kinds_before First before db h rows k (inr (inl e)) = subst (λ j. AllByRecursion (IsRowOf j) (before (tree_of j))) (sym e) (subst (AllByRecursion (IsRowOf Assignments)) h.same.1.0 (rows Assignments (inr (inl refl))))
kinds_before First before db h rows k (inr (inr (inl e))) = subst (λ j. AllByRecursion (IsRowOf j) (before (tree_of j))) (sym e) (subst (AllByRecursion (IsRowOf TopUps)) h.same.1.1.0 (rows TopUps (inr (inr (inl refl)))))
kinds_before First before db h rows k (inr (inr (inr none))) = absurd none
kinds_before Second before db h rows k at = subst (AllByRecursion (IsRowOf k)) (kinds_on before db h.same k) (rows k at)
kinds_before Third before db h rows k at = subst (AllByRecursion (IsRowOf k)) (kinds_on before db h.same k) (rows k at)

any_energies : (v : StoreVersion) (before : Trees) → IsEarlier v → HasEnergiesOf v before
any_energies First before earlier = tt
any_energies Second before earlier = tt
any_energies Third before earlier = absurd earlier

any_named : (v : StoreVersion) (office : OfficeRules) (before : Trees) → IsEarlier v → NamesEnergies v office before
any_named First office before earlier = tt
any_named Second office before earlier = tt
any_named Third office before earlier = absurd earlier

rows_before : (v : StoreVersion) (before db : Trees) → IsEarlier v → IsRaised v before db → HasRows Third db → HasRows v before
rows_before v before db earlier h it = record {
  rows = kinds_before v before db h it.rows;
  once = subst EachOnce (raised_records v before db h) it.once;
  points = subst (AreRows IsReadingRow key_in_point) (same_point v before db h) it.points;
  starts = subst (AreRows IsAssignmentRow key_in_start) (same_start v before db h) it.starts;
  energies = any_energies v before earlier;
  payments = subst (AreRows IsPaymentRow payment_in) (same_payment v before db h) it.payments;
}

earlier_openable : (v : StoreVersion) (office : OfficeRules) (body : List ℕ) (before db : Database) → IsUpgraded v office body before db → IsSound office db → IsOpenable v office body before
earlier_openable v office body before db up sound =
    let same = raised_records v before.trees db.trees up.raised in
    record {
      ours = up.was;
      text = up.was_text;
      rows = rows_before v before.trees db.trees up.earlier up.raised (rows_of db sound.store);
      named = record {
        energies = any_named v office before.trees up.earlier;
        payments = subst (AllByRecursion (λ r. IsTotalOf office (payment_in r))) (same_payment v before.trees db.trees up.raised) sound.named.payments;
      };
      of_office = subst (AllOfOffice office) same sound.of_office;
      few = subst (λ (s : List Entry). length s ≤ most_records) same sound.few;
      truth = subst (IsTrueContent office) up.content sound.truth;
    }

third_openable : (office : OfficeRules) (body : List ℕ) (db : Database) → HoldsTables Third db → KeepsText (KeepsVersion Third body) db.trees → IsSound office db → IsOpenable Third office body db
third_openable office body db ours text sound = record {
  ours = ours;
  text = text;
  rows = rows_of db sound.store;
  named = sound.named;
  of_office = sound.of_office;
  few = sound.few;
  truth = sound.truth;
}

-- ---- what may be committed
-- of a connection on which totals were put, and which is as it was since
pub is_ready : (v : StoreVersion) (office : OfficeRules) (body : List ℕ) (old mid new last : State) → IsEarlier v → HoldsTables v old.now → KeepsText (KeepsVersion v body) old.now.trees → IsRaised v old.now.trees mid.now.trees
    → HasSame lasting_trees mid.now.trees new.now.trees → IsWithin (schema_of Third) new → IsFilled office new.now.trees → IsSound office new.now → KeepsText (KeepsOffice body) new.now.trees → AreWithoutConflict new.now.trees
    → IsUnchanged new last → IsDatabase last.now → IsReady v office body old.now last
is_ready v office body old mid new last earlier was was_text raised same within filled sound text plain still listed =
    let whole = raised_on v old.now.trees mid.now.trees new.now.trees raised same in
    let at = within_on (schema_of Third) new last still within in
    let now_is = sym still.0.now_is in
    record {
      within = at;
      upgraded = record {
        earlier = earlier;
        was = was;
        was_text = was_text;
        ours = record { schema_is = at.schema_is; plain = subst (λ (d : Database). AreWithoutConflict d.trees) now_is plain };
        listed = listed;
        text = subst (λ (d : Database). KeepsText (KeepsOffice body) d.trees) now_is text;
        raised = subst (λ (d : Database). IsRaised v old.now.trees d.trees) now_is whole;
        filled = subst (λ (d : Database). IsFilled office d.trees) now_is filled;
        content = ap (λ (d : Database). content_of d.trees) still.0.now_is ∙ filled_content office new.now.trees filled ∙ raised_content office old.now.trees new.now.trees v earlier whole;
      };
      sound = subst (IsSound office) now_is sound;
    }

-- ---- what is opened
may_open : (office : OfficeRules) (body : List ℕ) (db : Database) → HoldsTables Third db → KeepsText (KeepsVersion Third body) db.trees → IsSound office db → MayOpen office body db
may_open office body db ours text sound = record {
  store = sound.store;
  plain = ours.plain;
  kept = text;
  named = sound.named;
  of_office = sound.of_office;
  few = sound.few;
  truth = sound.truth;
}

-- what was ready is committed
pub upgrade_opened : (v : StoreVersion) (office : OfficeRules) (body : List ℕ) (before : Database) (mid new : State) → IsReady v office body before mid → Shows mid new mid.now mid.now false → IsOpened office body before new
upgrade_opened v office body before mid new ready shows = record {
  is_open = shows.is_open;
  outside = shows.mode;
  settled = shows.now_is ∙ sym shows.committed_is;
  may_open = subst (MayOpen office body) (sym shows.now_is) (may_open office body mid.now ready.upgraded.ours ready.upgraded.text ready.sound);
  found = inl (v, (ready.upgraded.was.schema_is, ap (λ (d : Database). content_of d.trees) shows.now_is ∙ ready.upgraded.content));
  opens = inr (v, earlier_openable v office body before mid.now ready.upgraded ready.sound);
}

-- a store of version 3 is as it was
pub third_opened : (office : OfficeRules) (body : List ℕ) (s0 s1 s2 : State) → IsIdleAt s0 → IsUnchanged s0 s1 → IsUnchanged s1 s2 → HoldsTables Third s1.now → KeepsText (KeepsVersion Third body) s1.now.trees → IsSound office s2.now → IsOpened office body s0.now s2
third_opened office body s0 s1 s2 idle a b ours text sound =
    let tables = subst (HoldsTables Third) (sym b.0.now_is) ours in
    let kept = subst (λ (d : Database). KeepsText (KeepsVersion Third body) d.trees) (sym b.0.now_is) text in
    record {
      is_open = b.0.is_open;
      outside = b.0.mode ∙ a.0.mode ∙ idle.outside;
      settled = b.0.now_is ∙ a.0.now_is ∙ idle.settled ∙ sym (b.0.committed_is ∙ a.0.committed_is);
      may_open = may_open office body s2.now tables kept sound;
      found = inl (Third, (subst (λ (d : Database). IsOf Third d.schema) a.0.now_is ours.schema_is, ap (λ (d : Database). content_of d.trees) (b.0.now_is ∙ a.0.now_is)));
      opens = inr (Third, subst (IsOpenable Third office body) (b.0.now_is ∙ a.0.now_is) (third_openable office body s2.now tables kept sound));
    }

-- ---- what a crash leaves about the COMMIT
pub upgrade_survives : (v : StoreVersion) (office : OfficeRules) (body : List ℕ) (old mid new : State) → (HasCleanDisk mid → IsReady v office body old.now mid) → Survives old mid (λ _. ⊥) → Survives mid new (λ db. db ≡ mid.now.trees) → Survives old new (MayBeUpgraded office body old.now)
upgrade_survives v office body old mid new ready one two =
    survives_then old mid new (λ _. ⊥) (λ db. db ≡ mid.now.trees) (MayBeUpgraded office body old.now) (λ clean db never. absurd never)
    (λ clean db e. (v, (mid.now, ((ready (early mid new two clean)).upgraded, e)))) one two

-- ---- why it is refused
pub row_refuses : (office : OfficeRules) (body : List ℕ) (db : Database) (fault : OpenFault) → RowRefuses body db fault → BegunRefuses office body db fault
row_refuses office body db Store r = tt
row_refuses office body db Memory r = tt
row_refuses office body db OfficeDiffers r = r
row_refuses office body db Version r = r
row_refuses office body db Unclean (inl none) = inl none
row_refuses office body db Unclean (inr beside) = inr (inl beside)

pub rows_refuse : (v : StoreVersion) (office : OfficeRules) (body : List ℕ) (s0 s1 : State) (fault : OpenFault) → IsUnchanged s0 s1 → HoldsTables v s1.now → KeepsText (KeepsVersion v body) s1.now.trees → RowsRefuse v office s1.now.trees fault
    → BegunRefuses office body s0.now fault
rows_refuse v office body s0 s1 Store a ours text r = tt
rows_refuse v office body s0 s1 Memory a ours text r = tt
rows_refuse v office body s0 s1 OfficeDiffers a ours text r = absurd r
rows_refuse v office body s0 s1 Version a ours text r = absurd r
rows_refuse v office body s0 s1 Unclean a ours text r = subst (λ (d : Database). BegunRefuses office body d Unclean) a.0.now_is (inr (inr (v, (ours, (text, r)))))

pub other_text : (v : StoreVersion) (body : List ℕ) (rows : List Row) → HasVersion v rows → (KeepsVersion v body rows → ⊥) → HasOtherText v body rows
other_text v body rows has none = (has.0, has.1, has.2, λ same. none (has.0, has.1, has.2, same))

pub text_differs : (body : List ℕ) (s0 s1 : State) (v : StoreVersion) (rows : List Row) → IsUnchanged s0 s1 → HoldsTables v s1.now → IsPermutation (offices s0.now.trees) rows → HasVersion v rows → (KeepsVersion v body rows → ⊥)
    → RowRefuses body s0.now OfficeDiffers
text_differs body s0 s1 v rows a ours shown has none = (v, (subst (HoldsTables v) a.0.now_is ours, (rows, (shown, other_text v body rows has none))))

pub on_ok : {A : Type 0} (r : Result A OpenFault) (P Q R : Type 0) → (P → Q → R) → OnOk r P → OnOk r Q → OnOk r R
on_ok (Ok a) P Q R f p q = f p q
on_ok (Err fault) P Q R f p q = tt

-- a call that judges the rows of the version that was found refuses the store for what is so of what was found
pub version_refuses : {A : Type 0} (v w : StoreVersion) (office : OfficeRules) (body : List ℕ) (s0 s1 : State) (r : Result A OpenFault) → w ≡ v → IsUnchanged s0 s1 → HoldsTables w s1.now → KeepsText (KeepsVersion w body) s1.now.trees → IfErr r (RowsRefuse v office s1.now.trees)
    → IfErr r (BegunRefuses office body s0.now)
version_refuses v w office body s0 s1 r is same ours text = IfErr-weaker r (RowsRefuse v office s1.now.trees) (BegunRefuses office body s0.now)
    (λ fault it. rows_refuse v office body s0 s1 fault same (subst (λ x. HoldsTables x s1.now) is ours) (subst (λ x. KeepsText (KeepsVersion x body) s1.now.trees) is text) it)

begun_refuses : (office : OfficeRules) (body : List ℕ) (db : Database) (fault : OpenFault) → BeginsAsOurs db.schema → BegunRefuses office body db fault → Refuses office body db fault
begun_refuses office body db Store b r = tt
begun_refuses office body db Memory b r = tt
begun_refuses office body db OfficeDiffers b r = (b, r)
begun_refuses office body db Version b r = (b, r)
begun_refuses office body db Unclean b r = inr (b, r)

-- of what was committed, where nothing waits
pub committed_refuses : {A : Type 0} (r : Result A OpenFault) (office : OfficeRules) (body : List ℕ) (s : State) → s.now ≡ s.committed → BeginsAsOurs s.now.schema → IfErr r (BegunRefuses office body s.now) → IfErr r (Refuses office body s.committed)
committed_refuses r office body s settled b h = IfErr-weaker r (BegunRefuses office body s.now) (Refuses office body s.committed) (λ fault it. subst (λ (d : Database). Refuses office body d fault) settled (begun_refuses office body s.now fault b it)) h

pub committed_survives : (office : OfficeRules) (body : List ℕ) (old new : State) → (HasCleanDisk old → old.now ≡ old.committed) → Survives old new (MayBeUpgraded office body old.now) → Survives old new (MayBeMade office body old)
committed_survives office body old new settled s =
    survives_weaker old new (MayBeUpgraded office body old.now) (MayBeMade office body old) (λ clean db it. inr (subst (λ (d : Database). MayBeUpgraded office body d db) (settled (early old new s clean)) it)) s

pub settled_survives : {A : Type 0} (r : Result A OpenFault) (office : OfficeRules) (body : List ℕ) (old mid new : State) → (HasCleanDisk mid → mid.committed ≡ old.committed) → Survives old mid (λ _. ⊥) → OnErr r (Survives mid new (MayBeMade office body mid)) → OnErr r (Survives old new (MayBeMade office body old))
settled_survives (Ok a) office body old mid new same one two = tt
settled_survives (Err e) office body old mid new same one two =
    survives_then old mid new (λ _. ⊥) (MayBeMade office body mid) (MayBeMade office body old) (λ clean db never. absurd never)
    (λ clean db it. made_of db (same (early mid new two clean)) it) one two
  where
    made_of : (db : Trees) → mid.committed ≡ old.committed → MayBeMade office body mid db → MayBeMade office body old db
    made_of db e (inl it) = inl (subst (λ (d : Database). d.schema ≡ no_schema) e it.0, it.1)
    made_of db e (inr it) = inr (subst (λ (d : Database). MayBeUpgraded office body d db) e it)
