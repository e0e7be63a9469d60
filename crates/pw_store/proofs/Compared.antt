-- What the tables of points, starts and totals hold, where a judge took their rows or refused them.
use Rattle.std.proofs.Common.{◌≡◌, ◌↔◌, ℕ, Bool, List, [], ◌++◌, map, filter, append-nil, Option, Some, None, Result, Err, IsTrue, refl, sym, ap, subst, subst₂, ◌∙◌}
use Rattle.std.proofs.lemmas.List.{append_cancel_left}
use Rattle.std.proofs.lemmas.List.Elements.{filter-append}
use Rattle.std.specs.List.Sorted.{IsPermutation}
use Rattle.std.specs.Option.{option_copied}
use Rattle.sqlite.specs.Order.{Row}
use Rattle.pw_tariff.specs.Office.{OfficeRules, office_of}
use Rattle.pw_model.specs.declared.records.Entry.{Entry}
use Rattle.pw_model.specs.declared.records.TotalKey.{TotalKey}
use Rattle.pw_model.specs.Lists.{IsInOrder}
use Rattle.pw_parts.specs.declared.parts.Parts.{Parts}
use Rattle.pw_schema.specs.declared.kept.KeptEntries.{KeptEntries}
use Rattle.pw_schema.specs.declared.kept.KeptTotals.{KeptTotals}
use Rattle.pw_schema.specs.declared.kind.RecordKind.{RecordKind}
use Rattle.pw_schema.specs.declared.kind.TotalKind.{TotalKind}
use Rattle.pw_schema.specs.Judges.{HasCompared, HasSummed, IsRest, is_above_zero}
use Rattle.pw_schema.specs.Judging.{AreKept, AreTotals, by_key, by_total, told_total}
use Rattle.pw_schema.specs.Rows.{told}
use Rattle.pw_schema.proofs.Taken.{took_kept, took_totals}
use Rattle.pw_store.specs.declared.fault.OpenFault.{OpenFault}
use Rattle.pw_store.specs.declared.fault.OpenFault.TheVariants.{Unclean}
use Rattle.pw_store.specs.Opening.{HoldsKept, HoldsTotals}
use Rattle.pw_store.specs.inner.Lists.{shown}
use Rattle.pw_store.specs.inner.Opened.{RefusesUnless}
use Rattle.pw_store.specs.inner.Scanning.{HasRefused, IsOther}
use Rattle.pw_store.specs.inner.Sums.{TellsKept, TellsTotals, shown_total}
use Rattle.pw_store.specs.inner.Truth.{AreRead}
use Rattle.pw_store.proofs.Scanning.{refuses_unless}
use Rattle.pw_store.proofs.Checked.{back_kept, back_totals, good_kept, good_totals, tells_kept, tells_totals}

some_is : {X : Type 0} (x y : X) → Some x ≡ Some y → x ≡ y
some_is x y e = cc

no_some : {X Y : Type 0} (x : X) → ◌≡◌ {A = Option X} None (Some x) → Y
no_some x e = absurd cc

-- nothing is left of a list exactly where it was these
pub met_is : {X : Type 0} (all : Option (List X)) (front : List X) (rest : Option (List X)) (b : Bool) → IsRest all front rest → IsTrue b ↔ rest ≡ Some [] → IsTrue b ↔ all ≡ Some front
met_is None front rest b is h = (λ t. no_some [] (sym is ∙ h.0 t), λ e. no_some front e)
met_is (Some all) front (Some rest) b is h = (
  λ t. ap Some (is ∙ ap (λ l. front ++ l) (some_is rest [] (h.0 t)) ∙ append-nil front),
  λ e. h.1 (ap Some (append_cancel_left front rest [] (sym is ∙ some_is all front e ∙ sym (append-nil front)))),
)
met_is (Some all) front None b is h = (λ t. no_some [] (h.0 t), λ e. absurd (is [] (some_is all front e ∙ sym (append-nil front))))

-- these and then those are the whole list exactly where those are what these left
met_both : {X : Type 0} (all front : List X) (rest : Option (List X)) (back : List X) → IsRest (Some all) front rest → (rest ≡ Some back) ↔ (all ≡ front ++ back)
met_both all front None back left = (λ e. no_some back e, λ e. absurd (left back e))
met_both all front (Some rest) back left = (λ e. left ∙ ap (λ l. front ++ l) (some_is rest back e), λ e. ap Some (append_cancel_left front rest back (sym left ∙ e)))

-- ---- points and starts
module _ (office : OfficeRules) (k : RecordKind) (table : List Row) (first : KeptEntries) (of : office_of first.office.now ≡ office) (kind : first.kind ≡ k) where
  module _ (judge : KeptEntries) (rows : List Row) (it : HasCompared first rows judge) (shows : IsPermutation (map (shown k) table) rows) where
    pub kept_holds : HoldsKept office k table
    kept_holds = good_kept office k table rows shows (subst₂ (λ o j. AreKept o j rows) of kind (took_kept first judge rows it))

    pub kept_tells : (expected : List Entry) (b : Bool) → option_copied first.rest ≡ Some expected → IsTrue b ↔ option_copied judge.rest ≡ Some [] → (found : List Entry) × TellsKept k table found × (IsTrue b ↔ expected ≡ found)
    kept_tells expected b starts ends =
        let same : judge.kind ≡ k = it.same_kind ∙ kind in
        let found : List Entry = map (told k) rows in
        let left : IsRest (Some expected) found (option_copied judge.rest) = subst₂ (λ all j. IsRest all (map (told j) rows) (option_copied judge.rest)) starts same it.left in
        let met = met_is (Some expected) found (option_copied judge.rest) b left ends in (
          found,
          tells_kept office k table rows shows found refl (subst (λ j. IsInOrder by_key (map (told j) rows)) same it.rising),
          (λ t. some_is expected found (met.0 t), λ e. met.1 (ap Some e)),
        )

  pub kept_refuses : (fault : OpenFault) → IsOther {A = ℕ} (Err fault) → (◌≡◌ {A = Result ℕ OpenFault} (Err fault) (Err Unclean) → HasRefused (λ (f : KeptEntries) rows. AreKept (office_of f.office.now) f.kind rows → ⊥) (IsPermutation (map (shown k) table)) first) → RefusesUnless (HoldsKept office k table) fault
  kept_refuses fault other refused = refuses_unless (HoldsKept office k table) fault other (λ is held. (let it = refused is in it.1 (subst₂ (λ o j. AreKept o j it.0) (sym of) (sym kind) (back_kept office k table it.0 it.2 held))))

-- ---- totals
module _ (office : OfficeRules) (k : TotalKind) (table : List Row) (first : KeptTotals) (of : office_of first.office.now ≡ office) (kind : first.kind ≡ k) where
  module _ (judge : KeptTotals) (rows : List Row) (it : HasSummed first rows judge) (shows : IsPermutation (map (shown_total k) table) rows) where
    pub totals_hold : HoldsTotals office k table
    totals_hold = good_totals office k table rows shows (subst₂ (λ o j. AreTotals o j rows) of kind (took_totals first judge rows it))

    pub totals_tell : (expected : Option (List (TotalKey × ℕ))) → option_copied first.rest ≡ expected → (found : List (TotalKey × ℕ)) × TellsTotals k table found × IsRest expected (filter is_above_zero found) (option_copied judge.rest)
    totals_tell expected starts =
        let same : judge.kind ≡ k = it.same_kind ∙ kind in
        let found : List (TotalKey × ℕ) = map (told_total k) rows in (
          found,
          tells_totals office k table rows shows found refl (subst (λ j. IsInOrder by_total (map (told_total j) rows)) same it.rising),
          subst₂ (λ all j. IsRest all (filter is_above_zero (map (told_total j) rows)) (option_copied judge.rest)) starts same it.left,
        )

  pub totals_refuse : (fault : OpenFault) → IsOther {A = ℕ} (Err fault) → (◌≡◌ {A = Result ℕ OpenFault} (Err fault) (Err Unclean) → HasRefused (λ (f : KeptTotals) rows. AreTotals (office_of f.office.now) f.kind rows → ⊥) (IsPermutation (map (shown_total k) table)) first) → RefusesUnless (HoldsTotals office k table) fault
  totals_refuse fault other refused = refuses_unless (HoldsTotals office k table) fault other (λ is held. (let it = refused is in it.1 (subst₂ (λ o j. AreTotals o j it.0) (sym of) (sym kind) (back_totals office k table it.0 it.2 held))))

-- ---- all of them
pub all_read : (parts : Parts) (points starts : List Entry) (energies payments : List (TotalKey × ℕ)) (rest : Option (List (TotalKey × ℕ))) (a b c d : Bool) → IsTrue d ↔ (IsTrue a × IsTrue b × IsTrue c) → IsTrue a ↔ parts.points.items ≡ points → IsTrue b ↔ parts.starts.items ≡ starts
    → IsRest (Some parts.totals.items) (filter is_above_zero energies) rest → IsTrue c ↔ rest ≡ Some (filter is_above_zero payments) → IsTrue d ↔ AreRead parts (record { points = points; starts = starts; energies = energies; payments = payments })
all_read parts points starts energies payments rest a b c d all p s left ends =
    let both : filter is_above_zero (energies ++ payments) ≡ filter is_above_zero energies ++ filter is_above_zero payments = filter-append is_above_zero energies payments in
    let met = met_both parts.totals.items (filter is_above_zero energies) rest (filter is_above_zero payments) left in (
      λ t. (let it = all.0 t in record { points = p.0 it.0; starts = s.0 it.1; totals = met.0 (ends.0 it.2) ∙ sym both }),
      λ it. all.1 (p.1 it.points, s.1 it.starts, ends.1 (met.1 (it.totals ∙ both))),
    )
