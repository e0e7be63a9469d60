-- What was judged may be opened, or is refused with cause.
use Rattle.std.proofs.Common.{◌≡◌, ◌⊎◌, inl, inr, ◌<◌, ◌≤◌, ℕ, List, length, Result, Err, refl, sym, ap, subst, ◌∙◌, arith}
use Rattle.std.specs.List.Sorted.{IsPermutation}
use Rattle.std.proofs.lemmas.List.Sorted.{length_permutation}
use Rattle.sqlite.specs.Tree.{Trees}
use Rattle.sqlite.specs.Effect.{Database}
use Rattle.sqlite.specs.State.{State, IsUnchanged}
use Rattle.pw_tariff.specs.Office.{OfficeRules}
use Rattle.pw_model.specs.declared.records.Entry.{Entry}
use Rattle.pw_model.specs.Office.{AllOfOffice, most_records}
use Rattle.pw_parts.specs.declared.parts.Parts.{Parts}
use Rattle.pw_parts.specs.Parts.{IsPartsOf}
use Rattle.pw_schema.specs.declared.kind.StoreVersion.{StoreVersion}
use Rattle.pw_schema.specs.declared.kind.StoreVersion.TheVariants.{Second, Third}
use Rattle.pw_schema.specs.Tables.{IsOurs}
use Rattle.pw_store.specs.declared.fault.OpenFault.{OpenFault}
use Rattle.pw_store.specs.declared.fault.OpenFault.TheVariants.{Store, Memory, OfficeDiffers, Version, Unclean}
use Rattle.pw_store.specs.Content.{records_of}
use Rattle.pw_store.specs.Opening.{HoldsAllRecords, HoldsSums, IsSpoilt}
use Rattle.pw_store.specs.inner.Opened.{AreJudged, IsSound, RecordsRefuse, RefusesUnless, RowsRefuse}
use Rattle.pw_store.specs.inner.Sums.{AreAllNumbered, Listed, TellsSums}
use Rattle.pw_store.specs.inner.Truth.{AreRead}
use Rattle.pw_store.proofs.OfParts.{have_truth, have_none}
use Rattle.pw_store.proofs.OfContent.{names_office}
use Rattle.pw_store.proofs.InTurn.{trees_same}
use Rattle.pw_store.proofs.Sound.{sound_store, sound_office}

-- ---- records
-- of those that were read, as the connection is behind them
pub are_judged : (office : OfficeRules) (old new : State) (records : List Entry) (parts : Parts) → IsUnchanged old new → HoldsAllRecords Third office old.now.trees → IsPermutation (records_of old.now.trees) records
    → length records ≤ most_records → IsPartsOf office records parts → AreJudged office new.now.trees parts
are_judged office old new records parts same all listed few is =
    let here = sym (trees_same old new same) in
    let many = length_permutation (records_of old.now.trees) records listed in
    subst (λ db. AreJudged office db parts) here (record { all = all; few = omega (arith, few, many); parts_of = (records, listed, is) })

pub judged_many : (old new : State) (records : List Entry) (held : ℕ) → IsUnchanged old new → IsPermutation (records_of old.now.trees) records → length records ≡ held → length (records_of new.now.trees) ≡ held
judged_many old new records held same listed told = ap (λ db. length (records_of db)) (trees_same old new same) ∙ sym (length_permutation (records_of old.now.trees) records listed) ∙ told

-- their rows were refused
pub records_refused : (office : OfficeRules) (db : Trees) (fault : OpenFault) → RefusesUnless (HoldsAllRecords Third office db) fault → RecordsRefuse office db fault
records_refused office db Store refuse = tt
records_refused office db Memory refuse = tt
records_refused office db OfficeDiffers refuse = refuse
records_refused office db Version refuse = refuse
records_refused office db Unclean refuse = inl refuse

-- they have no parts: they are too many, or memory was refused
pub parts_refused : {A : Type 0} (office : OfficeRules) (db : Trees) (records : List Entry) (fault : OpenFault) → IsPermutation (records_of db) records
    → (◌≡◌ {A = Result A OpenFault} (Err fault) (Err Unclean) → most_records < length records) → (◌≡◌ {A = Result A OpenFault} (Err fault) (Err Unclean)) ⊎ (◌≡◌ {A = Result A OpenFault} (Err fault) (Err Memory)) → RecordsRefuse office db fault
parts_refused office db records Store listed many others = tt
parts_refused office db records Memory listed many others = tt
parts_refused office db records OfficeDiffers listed many others = elim others [ inl i ↦ absurd cc | inr i ↦ absurd cc ]
parts_refused office db records Version listed many others = elim others [ inl i ↦ absurd cc | inr i ↦ absurd cc ]
parts_refused office db records Unclean listed many others =
    let much = many refl in
    let same = length_permutation (records_of db) records listed in
    inr (omega (arith, much, same))

-- so the rows of the tables are
rows_of_version : (v : StoreVersion) (office : OfficeRules) (db : Trees) → (RecordsRefuse office db Unclean → RowsRefuse v office db Unclean) → (fault : OpenFault) → RecordsRefuse office db fault → RowsRefuse v office db fault
rows_of_version v office db spoilt Store refuse = tt
rows_of_version v office db spoilt Memory refuse = tt
rows_of_version v office db spoilt OfficeDiffers refuse = refuse
rows_of_version v office db spoilt Version refuse = refuse
rows_of_version v office db spoilt Unclean refuse = spoilt refuse

pub rows_refused : (office : OfficeRules) (db : Trees) (fault : OpenFault) → RecordsRefuse office db fault → RowsRefuse Third office db fault
rows_refused office db = rows_of_version Third office db (λ refuse. elim refuse [ inl none ↦ inl none | inr many ↦ inr (inl many) ])

pub earlier_refused : (office : OfficeRules) (db : Trees) (fault : OpenFault) → RecordsRefuse office db fault → RowsRefuse Second office db fault
earlier_refused office db = rows_of_version Second office db (λ refuse. elim refuse [ inl none ↦ inl none | inr many ↦ inr (inl many) ])

-- ---- points, starts and totals
-- those that were read are the parts of the records, or not
module _ (office : OfficeRules) (db : Database) (parts : Parts) (sums : Listed) (ours : IsOurs db.schema) (records : AreJudged office db.trees parts)
    (holds : HoldsSums office db.trees) (numbered : AreAllNumbered db.trees) (tells : TellsSums db.trees sums) where
  of_office : AllOfOffice office (records_of db.trees)
  of_office = sound_office office db ours records.all holds numbered

  pub judged : AreRead parts sums → IsSound office db
  judged read = record {
    store = sound_store office db ours records.all holds numbered;
    named = names_office office db.trees holds;
    of_office = of_office;
    few = records.few;
    truth = have_truth office db.trees records.parts_of.0 sums holds tells records.parts_of.1 of_office (parts, records.parts_of.2, read);
  }

  pub judged_others : (AreRead parts sums → ⊥) → IsSpoilt Third office db.trees
  judged_others other = inr (inr (inr (have_none office db.trees records.parts_of.0 sums holds tells records.parts_of.1 of_office (parts, records.parts_of.2, other))))

-- they were refused
pub sums_refused : (office : OfficeRules) (db : Trees) (fault : OpenFault) → RefusesUnless (HoldsSums office db) fault → RowsRefuse Third office db fault
sums_refused office db Store refuse = tt
sums_refused office db Memory refuse = tt
sums_refused office db OfficeDiffers refuse = refuse
sums_refused office db Version refuse = refuse
sums_refused office db Unclean refuse = inr (inr (inl refuse))
