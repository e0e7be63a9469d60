-- A store that was given another office file: its content, what refuses its rows, and what a crash leaves of it.
use Rattle.std.proofs.Common.{◌≡◌, ◌≤◌, inl, inr, Result, IfErr, OnErr, IsTrue, false, ℕ, List, unwrap_or, length, sym, ap, subst, ◌∙◌, arith, Bool, cond}
use Rattle.std.proofs.lemmas.Result.{IfErr-weaker}
use Rattle.sqlite.specs.Order.{Row}
use Rattle.sqlite.specs.Tree.{Trees}
use Rattle.sqlite.specs.Effect.{Database, IsDatabase}
use Rattle.sqlite.specs.State.{State, HasCleanDisk, IsUnchanged, Shows, Survives}
use Rattle.sqlite.proofs.StateLemmas.{survives_then}
use Rattle.pw_tariff.specs.Office.{OfficeRules}
use Rattle.pw_model.specs.declared.records.TotalKey.{TotalKey}
use Rattle.pw_model.specs.declared.records.TotalKey.TheVariants as total
use Rattle.pw_model.specs.Office.{AllOfOffice, most_records}
use Rattle.pw_model.specs.Shelf.{IsTrueContent}
use Rattle.pw_schema.specs.Conflicts.{AreWithoutConflict}
use Rattle.pw_schema.specs.declared.kind.RecordKind.TheVariants.{Readings, Assignments}
use Rattle.pw_schema.specs.declared.kind.TotalKind.TheVariants.{Energies, Payments}
use Rattle.pw_schema.specs.declared.kind.StoreVersion.TheVariants.{Third}
use Rattle.pw_schema.specs.Fresh.{IsWithin}
use Rattle.pw_schema.specs.Judging.{KeepsOffice}
use Rattle.pw_schema.specs.Raised.{HasSame, all_but_office, lasting_trees}
use Rattle.pw_schema.specs.Tables.{IsOurs, schema_of}
use Rattle.pw_schema.proofs.Outcomes.{early, on_err}
use Rattle.pw_store.specs.Content.{content_of, energy_told, energy_tree, payment_told, payment_tree, point_in, point_tree, records_of, start_in, start_tree, total_in, total_tree}
use Rattle.pw_store.specs.Kept.{IsIdle, IsStore, written_of}
use Rattle.pw_store.specs.Left.{AdoptedHolds, AdoptedOpens, AdoptionRefuses, IsAdopted, IsOfText, MayBeAdopted, SuitsOffice}
use Rattle.pw_store.specs.Opening.{HoldsKept, HoldsSums, HoldsTotals, IsSpoilt, KeepsText}
use Rattle.pw_store.specs.inner.Opened.{HasAdopted, IsReplaced, IsSound, RowsRefuse}
use Rattle.pw_store.specs.declared.fault.OpenFault.{OpenFault}
use Rattle.pw_store.specs.declared.fault.OpenFault.TheVariants.{Store, Memory, OfficeDiffers, Version, Unclean}
use Rattle.pw_store.proofs.Filled.{all_on, kinds_on, records_on, within_on}
use Rattle.pw_store.proofs.LeftStores.{rows_of}
use Rattle.pw_store.proofs.OfContent.{records_held, sums_held}
use Rattle.pw_store.proofs.Openable.{opens_version}
use Rattle.pw_store.proofs.Reopening.{found_ours}

-- ---- what has stayed
pub stays_among : (before db : Trees) → HasSame all_but_office before db → HasSame lasting_trees before db
stays_among before db s = (s.0, (s.1.0, (s.1.1.0, (s.1.1.1.0, (s.1.1.1.1.0, (s.1.1.1.1.1.1.0, (s.1.1.1.1.1.1.1.0, (s.1.1.1.1.1.1.1.1.0, (s.1.1.1.1.1.1.1.1.1.0, tt)))))))))

module _ (before db : Trees) (same : HasSame all_but_office before db) where
  same_records : records_of db ≡ records_of before
  same_records = all_on before db (stays_among before db same)

  same_energies : db energy_tree ≡ before energy_tree
  same_energies = same.1.1.1.1.1.1.1.1.1.1.0

  same_payments : db payment_tree ≡ before payment_tree
  same_payments = same.1.1.1.1.1.1.0

  same_old : db total_tree ≡ before total_tree
  same_old = same.1.1.1.1.1.0

  same_points : db point_tree ≡ before point_tree
  same_points = same.1.1.1.0

  same_starts : db start_tree ≡ before start_tree
  same_starts = same.1.1.1.1.0

  same_totals : total_in db ≡ total_in before
  same_totals = λ i k. go k i
    where
      go : (k : TotalKey) → total_in db k ≡ total_in before k
      go (total.Energy o p b d) = ap (λ (rows : List Row). unwrap_or (energy_told rows (total.Energy o p b d)) 0) same_energies
      go (total.TopUps a) = ap (λ (rows : List Row). unwrap_or (payment_told rows (total.TopUps a)) 0) same_payments

  pub same_content : content_of db ≡ content_of before
  same_content = λ i. record {
    records = same_records i;
    point = ap point_in same_points i;
    start = ap start_in same_starts i;
    total = same_totals i;
  }

  -- ---- where its rows are refused, so are those of before
  sums_on : (office : OfficeRules) → HoldsSums office before → HoldsSums office db
  sums_on office sums = record {
    points = subst (HoldsKept office Readings) (sym same_points) sums.points;
    starts = subst (HoldsKept office Assignments) (sym same_starts) sums.starts;
    energies = subst (HoldsTotals office Energies) (sym same_energies) sums.energies;
    payments = subst (HoldsTotals office Payments) (sym same_payments) sums.payments;
    old = same_old ∙ sums.old;
  }

  spoilt_before : (office : OfficeRules) → IsSpoilt Third office db → IsSpoilt Third office before
  spoilt_before office (inl none) = inl (λ all. none (λ k at. records_on office k before db (kinds_on before db (stays_among before db same) k) (all k at)))
  spoilt_before office (inr (inl many)) = inr (inl (let held = ap length same_records in omega (arith, held, many)))
  spoilt_before office (inr (inr (inl none))) = inr (inr (inl (λ sums. none (sums_on office sums))))
  spoilt_before office (inr (inr (inr untrue))) = inr (inr (inr (λ truth. untrue (subst (IsTrueContent office) (sym same_content) truth))))

  pub refused_before : (office : OfficeRules) (fault : OpenFault) → RowsRefuse Third office db fault → RowsRefuse Third office before fault
  refused_before office Store r = tt
  refused_before office Memory r = tt
  refused_before office OfficeDiffers r = r
  refused_before office Version r = r
  refused_before office Unclean r = spoilt_before office r

-- ---- rows that are refused aren't such as the office has
not_spoilt : (office : OfficeRules) (db : Database) → IsStore db → SuitsOffice office (content_of db.trees) db.trees → IsSpoilt Third office db.trees → ⊥
not_spoilt office db store it (inl records) = records (records_held Third office db.trees (rows_of db store) it.sound.of_office)
not_spoilt office db store it (inr (inl many)) = let few = it.sound.few in omega (arith, few, many)
not_spoilt office db store it (inr (inr (inl sums))) = sums (sums_held Third office db.trees (rows_of db store) it.sound.of_office it.sound.truth it.named)
not_spoilt office db store it (inr (inr (inr untrue))) = untrue it.sound.truth

pub adoption_refused : (office : OfficeRules) (db : Database) (fault : OpenFault) → IsStore db → RowsRefuse Third office db.trees fault → AdoptionRefuses office (content_of db.trees) db.trees fault
adoption_refused office db Store store r = tt
adoption_refused office db Memory store r = tt
adoption_refused office db OfficeDiffers store r = r
adoption_refused office db Version store r = r
adoption_refused office db Unclean store r = λ suits. not_spoilt office db store suits r

-- ---- what may be committed
-- of a connection on which another text was put, and which is as it was since
pub is_replaced : (office : OfficeRules) (body : List ℕ) (old put new last : State) → IsWithin (schema_of Third) put → HasSame all_but_office old.now.trees put.now.trees → IsUnchanged put new → IsSound office new.now
    → KeepsText (KeepsOffice body) new.now.trees → AreWithoutConflict new.now.trees → IsUnchanged new last → IsDatabase last.now → IsReplaced office body old.now last
is_replaced office body old put new last within same first sound text plain still listed =
    let at = within_on (schema_of Third) new last still (within_on (schema_of Third) put new first within) in
    let now_is = sym still.0.now_is in
    let held = subst (IsSound office) now_is sound in
    record {
      within = at;
      adopted = record {
        listed = listed;
        same = subst (λ (d : Database). HasSame all_but_office old.now.trees d.trees) (sym (still.0.now_is ∙ first.0.now_is)) same;
        openable = record {
          ours = record { schema_is = at.schema_is; plain = subst (λ (d : Database). AreWithoutConflict d.trees) now_is plain };
          text = subst (λ (d : Database). KeepsText (KeepsOffice body) d.trees) now_is text;
          rows = rows_of last.now held.store;
          named = held.named;
          of_office = held.of_office;
          few = held.few;
          truth = held.truth;
        };
      };
      store = held.store;
    }

-- what was replaced is committed
pub adopted_committed : (office : OfficeRules) (body : List ℕ) (before : Database) (mid new : State) → IsReplaced office body before mid → Shows mid new mid.now mid.now false → HasAdopted office body before new
adopted_committed office body before mid new ready shows = record {
  standing = record {
    is_open = shows.is_open;
    outside = shows.mode;
    settled = shows.now_is ∙ sym shows.committed_is;
    store = subst IsStore (sym shows.now_is) ready.store;
  };
  adopted = subst (IsAdopted office body before) (sym shows.now_is) ready.adopted;
}

-- ---- what a crash leaves about the COMMIT
pub adopted_survives : (office : OfficeRules) (body : List ℕ) (old mid new : State) → (HasCleanDisk mid → IsReplaced office body old.now mid) → Survives old mid (λ _. ⊥) → Survives mid new (λ db. db ≡ mid.now.trees)
    → Survives old new (MayBeAdopted office body old.now)
adopted_survives office body old mid new ready one two =
    survives_then old mid new (λ _. ⊥) (λ db. db ≡ mid.now.trees) (MayBeAdopted office body old.now) (λ clean db never. absurd never)
    (λ clean db e. (mid.now, ((ready (early mid new two clean)).adopted, e))) one two

-- ---- behind what settled the connection
pub settled_refuses : {A : Type 0} (r : Result A OpenFault) (office : OfficeRules) (mid : Database) (before : Database) → mid ≡ before → IsStore before → IfErr r (RowsRefuse Third office mid.trees) → IfErr r (AdoptionRefuses office (content_of before.trees) before.trees)
settled_refuses r office mid before is store =
    IfErr-weaker r (RowsRefuse Third office mid.trees) (AdoptionRefuses office (content_of before.trees) before.trees)
    (λ fault it. adoption_refused office before fault store (subst (λ (d : Database). RowsRefuse Third office d.trees fault) is it))

pub settled_survives : {A : Type 0} (r : Result A OpenFault) (office : OfficeRules) (body : List ℕ) (old mid new : State) → (HasCleanDisk mid → mid.now ≡ old.committed) → Survives old mid (λ _. ⊥) → Survives mid new (MayBeAdopted office body mid.now)
    → OnErr r (Survives old new (MayBeAdopted office body old.committed))
settled_survives r office body old mid new is one two = on_err r (
    survives_then old mid new (λ _. ⊥) (MayBeAdopted office body mid.now) (MayBeAdopted office body old.committed) (λ clean db never. absurd never)
    (λ clean db it. subst (λ (d : Database). MayBeAdopted office body d db) (is (early mid new two clean)) it) one two)

-- ---- the shelf of before
module _ (old base : State) where
  pub held_before : (begun : Bool) → IsIdle old begun → begun ≡ false → HasCleanDisk old → IsTrue old.is_open → written_of old base ≡ content_of old.committed.trees
  held_before begun idle none clean live = ap (λ b. content_of (cond b old.now.trees base.committed.trees)) live ∙ ap content_of (idle clean live none)

  pub adopted_held : (office : OfficeRules) (body : List ℕ) (new fresh : State) (begun : Bool) → IsIdle old begun → begun ≡ false → HasCleanDisk old → IsTrue old.is_open → HasAdopted office body old.committed new → written_of new fresh ≡ written_of old base
  adopted_held office body new fresh begun idle none clean live it =
      ap (λ b. content_of (cond b new.now.trees fresh.committed.trees)) it.standing.is_open ∙ same_content old.committed.trees new.now.trees it.adopted.same ∙ sym (held_before begun idle none clean live)

-- ---- what is held over a connection on which another text was put
module _ (s base : State) (office : OfficeRules) (body : List ℕ) (before : Database) (it : HasAdopted office body before s) where
  open_trees : s.now.trees ≡ cond s.is_open s.now.trees base.committed.trees
  open_trees = sym (ap (λ b. cond b s.now.trees base.committed.trees) it.standing.is_open)

  pub adopted_of_office : AllOfOffice office (written_of s base).records
  adopted_of_office = subst (λ (db : Trees). AllOfOffice office (records_of db)) open_trees it.adopted.openable.of_office

  pub adopted_few : length (written_of s base).records ≤ most_records
  adopted_few = subst (λ (db : Trees). length (records_of db) ≤ most_records) open_trees it.adopted.openable.few

  pub adopted_truth : IsTrueContent office (written_of s base)
  adopted_truth = subst (λ (db : Trees). IsTrueContent office (content_of db)) open_trees it.adopted.openable.truth

  pub adopted_text : IsOurs s.now.schema × KeepsText (KeepsOffice body) s.now.trees
  adopted_text = (it.adopted.openable.ours.schema_is, it.adopted.openable.text)

  pub adopted_opened : (at : State) → at ≡ s → IsOfText office body at.now.trees
  adopted_opened at is = subst (λ (o : State). IsOfText office body o.now.trees) (sym is) (it.adopted.openable.text, (it.adopted.openable.named, it.adopted.openable.ours.plain))

-- ---- the connections under the names that the shelves have
module _ (old taken mid new : State) (same : taken ≡ old) (is : new ≡ mid) where
  pub adopted_at : (office : OfficeRules) (body : List ℕ) → (HasCleanDisk mid → HasAdopted office body taken.committed mid) → HasCleanDisk new → HasAdopted office body old.committed new
  adopted_at office body it = subst (λ (x : State). HasCleanDisk x → HasAdopted office body old.committed x) (sym is) (subst (λ (x : State). HasCleanDisk mid → HasAdopted office body x.committed mid) same it)

  pub was_open_at : (HasCleanDisk mid → HasCleanDisk taken × IsTrue taken.is_open) → HasCleanDisk new → HasCleanDisk old × IsTrue old.is_open
  was_open_at it = subst (λ (x : State). HasCleanDisk x → HasCleanDisk old × IsTrue old.is_open) (sym is) (subst (λ (x : State). HasCleanDisk mid → HasCleanDisk x × IsTrue x.is_open) same it)

-- ---- what is left opens again
pub adopted_opens : AdoptedOpens
adopted_opens office body before found fault it = opens_version Third office body found fault it.openable

pub adopted_holds : AdoptedHolds
adopted_holds office body before found c it is = found_ours office found c it.openable.ours.schema_is is ∙ same_content before.trees found.trees it.same
