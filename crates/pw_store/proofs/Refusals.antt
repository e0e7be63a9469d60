-- What the tables of records hold, where a judge took their rows or refused them.
use Rattle.std.proofs.Common.{◌≡◌, ℕ, List, map, Result, Err, sym, ap, subst, subst₂, ◌∙◌}
use Rattle.std.specs.List.{AllByRecursion}
use Rattle.std.specs.List.Sorted.{IsPermutation}
use Rattle.sqlite.specs.Order.{Row}
use Rattle.sqlite.specs.Tree.{Trees}
use Rattle.pw_tariff.specs.Office.{OfficeRules, office_of}
use Rattle.pw_model.specs.Office.{AllOfOffice}
use Rattle.pw_schema.specs.declared.kind.RecordKind.{RecordKind}
use Rattle.pw_schema.specs.declared.records.Records.{Records}
use Rattle.pw_schema.specs.Judges.{HasRead}
use Rattle.pw_schema.specs.Judging.{AreRecords, IsRecord}
use Rattle.pw_schema.specs.Rows.{told}
use Rattle.pw_schema.proofs.Taken.{took_records}
use Rattle.pw_store.specs.Content.{entries_of, tree_of}
use Rattle.pw_store.specs.declared.fault.OpenFault.{OpenFault}
use Rattle.pw_store.specs.declared.fault.OpenFault.TheVariants.{Unclean}
use Rattle.pw_store.specs.Opening.{HoldsRecords}
use Rattle.pw_store.specs.declared.listings.Listing.TheVariants as listing
use Rattle.pw_store.specs.inner.Listings.{ShowsAll}
use Rattle.pw_store.specs.inner.Opened.{RefusesUnless}
use Rattle.pw_store.specs.inner.Scanning.{HasRefused, IsOther}
use Rattle.pw_store.proofs.Scanning.{refuses_unless}
use Rattle.pw_store.proofs.Lists.{told_permuted}
use Rattle.pw_store.proofs.Sound.{good_back, good_records, told_of_office}

module _ (office : OfficeRules) (k : RecordKind) (first : Records) (of : office_of first.office.now ≡ office) (kind : first.kind ≡ k) where
  module _ (judge : Records) (rows : List Row) (it : HasRead first rows judge) where
    same : judge.kind ≡ k
    same = it.same_kind ∙ kind

    pub table_holds : (db : Trees) → ShowsAll (listing.Records k) db rows → HoldsRecords office k db
    table_holds db shows = good_records office k db rows shows (subst₂ (λ o j. AreRecords o j rows) of kind (took_records first judge rows it))

    pub table_listed : (db : Trees) → ShowsAll (listing.Records k) db rows → IsPermutation (entries_of k db) judge.found.items
    table_listed db shows = subst (IsPermutation (entries_of k db)) (sym (it.read.are ∙ ap (λ j. map (told j) rows) same)) (told_permuted k (db (tree_of k)) rows shows)

    pub table_of_office : AllOfOffice office judge.found.items
    table_of_office =
        let each : AllByRecursion (IsRecord office judge.kind) rows = subst (λ o. AllByRecursion (IsRecord o judge.kind) rows) (ap office_of it.same_office ∙ of) it.each in
        subst (AllOfOffice office) (sym it.read.are) (told_of_office office judge.kind rows each)

  pub table_refuses : (db : Trees) (fault : OpenFault) → IsOther {A = ℕ} (Err fault) → (◌≡◌ {A = Result ℕ OpenFault} (Err fault) (Err Unclean) → HasRefused (λ (f : Records) rows. AreRecords (office_of f.office.now) f.kind rows → ⊥) (ShowsAll (listing.Records k) db) first) → RefusesUnless (HoldsRecords office k db) fault
  table_refuses db fault other refused = refuses_unless (HoldsRecords office k db) fault other (λ is held. (let it = refused is in it.1 (subst₂ (λ o j. AreRecords o j it.0) (sym of) (sym kind) (good_back office k db it.0 it.2 held))))
