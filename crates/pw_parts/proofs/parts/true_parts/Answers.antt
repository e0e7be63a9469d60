use Rattle.std.proofs.Common.{◌≡◌, ℕ, ◌<◌, List, sym, ◌∙◌, subst}
use Rattle.pw_model.specs.Kinds.{IsAssignment, IsReading}
use Rattle.pw_model.specs.declared.records.Entry.{Entry}
use Rattle.pw_model.specs.declared.records.TotalKey.{TotalKey}
use Rattle.pw_model.specs.Counting.{Counts}
use Rattle.pw_model.specs.Lists.{Lists}
use Rattle.pw_model.specs.Same.{entry_order}
use Rattle.pw_model.specs.Shelf.{total_among}
use Rattle.pw_tariff.specs.Office.{office_of}
use Rattle.pw_parts.specs.Parts.{by_key, by_total}
use Rattle.pw_parts.proofs.Whole.{are-counted, kind-listed, lists-alike, totals-same}
use Rattle.pw_parts.proofs.parts.true_parts.Goals as goal

pub totals_of-requires-clause-counted : goal.totals_of-requires-clause-counted
totals_of-requires-clause-counted c = are-counted c.args.entries.now c.deref.result.now (rw c.deref.ensures.value c.in_ok-counted.ensures.counting) (office_of c.args.office.now) c.requires.of_office

pub returns : goal.returns
returns c =
    let office = office_of c.args.office.now in
    let s = c.args.entries.now in
    let l : Lists entry_order (Counts s) c.deref.result.now = rw c.deref.ensures.value c.in_ok-counted.ensures.counting in
    let l2 : Lists entry_order (Counts s) c.deref-2.result.now = rw c.deref-2.ensures.value c.in_ok-counted.ensures.counting in
    let l3 : Lists entry_order (Counts s) c.deref-3.result.now = rw c.deref-3.ensures.value c.in_ok-counted.ensures.counting in
    let P : List Entry → Type 0 = λ xs. Lists by_key (λ e. Counts s e × IsReading e.key) xs in
    let Q : List Entry → Type 0 = λ xs. Lists by_key (λ e. Counts s e × IsAssignment e.key) xs in
    record {
      points = subst P (sym c.in_ok-points.ensures.items) (kind-listed s c.deref-2.result.now l2 IsReading c.readings_among.result.now c.readings_among.ensures);
      starts = subst Q (sym c.in_ok-starts.ensures.items) (kind-listed s c.deref-3.result.now l3 IsAssignment c.assignments_among.result.now c.assignments_among.ensures);
      totals = lists-alike by_total (λ (t : TotalKey × ℕ). (t.1 ≡ total_among office c.deref.result.now t.0) × (0 < t.1)) (λ (t : TotalKey × ℕ). (t.1 ≡ total_among office s t.0) × (0 < t.1)) c.in_ok-totals.totals.items
          (λ t. (λ h. (h.0 ∙ totals-same s c.deref.result.now l office t.0, h.1), λ h. (h.0 ∙ sym (totals-same s c.deref.result.now l office t.0), h.1))) c.in_ok-totals.ensures;
    }
