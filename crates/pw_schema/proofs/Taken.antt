-- What is known of rows that a judge took.
use Rattle.std.proofs.Common.{ℕ, List, map, refl, subst, subst₂}
use Rattle.sqlite.specs.Order.{Row}
use Rattle.pw_tariff.specs.Office.{office_of}
use Rattle.pw_model.specs.declared.records.Entry.{Entry}
use Rattle.pw_model.specs.declared.records.TotalKey.{TotalKey}
use Rattle.pw_model.specs.Same.{key_numbers, total_numbers}
use Rattle.pw_model.proofs.Same.{key-numbers-one}
use Rattle.pw_schema.specs.declared.kept.KeptEntries.{KeptEntries}
use Rattle.pw_schema.specs.declared.kept.KeptTotals.{KeptTotals}
use Rattle.pw_schema.specs.declared.records.Records.{Records}
use Rattle.pw_schema.specs.Judges.{HasRead, HasCompared, HasSummed}
use Rattle.pw_schema.specs.Judging.{AreRecords, AreKept, AreTotals, told_total}
use Rattle.pw_schema.specs.Rows.{told}
use Rattle.pw_schema.proofs.Judged.{in_order_once}
use Rattle.pw_model.specs.Counting.{EachOnce}
use Rattle.pw_schema.proofs.Keyed.{keys_told}
use Rattle.pw_schema.proofs.TotalKeys.{totals_one}

pub took_records : (first judge : Records) (rows : List Row) → HasRead first rows judge → AreRecords (office_of first.office.now) first.kind rows
took_records first judge rows it = subst₂ (λ o k. AreRecords (office_of o) k rows) it.same_office it.same_kind (record { each = it.each; once = subst EachOnce it.read.are (in_order_once judge.found.items it.read.rising) })

pub took_kept : (first judge : KeptEntries) (rows : List Row) → HasCompared first rows judge → AreKept (office_of first.office.now) first.kind rows
took_kept first judge rows it = subst₂ (λ o k. AreKept (office_of o) k rows) it.same_office it.same_kind (record {
  each = it.each;
  once = keys_told (λ (e : Entry). e.key) key_numbers key-numbers-one (told judge.kind) rows (map (told judge.kind) rows) refl it.rising;
})

pub took_totals : (first judge : KeptTotals) (rows : List Row) → HasSummed first rows judge → AreTotals (office_of first.office.now) first.kind rows
took_totals first judge rows it = subst₂ (λ o k. AreTotals (office_of o) k rows) it.same_office it.same_kind (record {
  each = it.each;
  once = keys_told (λ (t : TotalKey × ℕ). t.0) total_numbers totals_one (told_total judge.kind) rows (map (told_total judge.kind) rows) refl it.rising;
})
