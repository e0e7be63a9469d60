-- Where a judge refuses a row, the rows aren't all of the office, each once.
use Rattle.std.proofs.Common.{◌≡◌, ℕ, List, ◌∷◌, ◌++◌, option_map, IfNone, IfSome, Equal, sym, subst₂}
use Rattle.std.specs.declared.cmp.Ordering.TheVariants.{Less}
use Rattle.sqlite.specs.Order.{Row}
use Rattle.pw_tariff.specs.Office.{office_of}
use Rattle.pw_model.specs.declared.records.Entry.{Entry}
use Rattle.pw_model.specs.declared.records.TotalKey.{TotalKey}
use Rattle.pw_model.specs.Same.{entry_order, key_numbers, key_order, total_numbers, total_order}
use Rattle.pw_model.proofs.Same.{key-numbers-one}
use Rattle.pw_schema.specs.declared.kept.KeptEntries.{KeptEntries}
use Rattle.pw_schema.specs.declared.kept.KeptTotals.{KeptTotals}
use Rattle.pw_schema.specs.declared.records.Records.{Records}
use Rattle.pw_schema.specs.Judges.{HasRead, HasCompared, HasSummed}
use Rattle.pw_schema.specs.Judging.{AreKept, AreRecords, AreTotals, IsRecord, IsTotal, told_total}
use Rattle.pw_schema.specs.Rows.{told}
use Rattle.pw_schema.proofs.Keyed.{key_twice, some_mapped, none_mapped}
use Rattle.pw_schema.proofs.OneByOne.{all_mid, read_twice}
use Rattle.pw_schema.proofs.TotalKeys.{totals_one}

-- ---- records: they are judged by the office and the kind that the judge had at first
module _ (first judge : Records) (rows tail : List Row) (row : Row) (held : HasRead first rows judge) (records : AreRecords (office_of first.office.now) first.kind (rows ++ row ∷ tail)) where
  own_records : AreRecords (office_of judge.office.now) judge.kind (rows ++ row ∷ tail)
  own_records = subst₂ (λ o k. AreRecords (office_of o) k (rows ++ row ∷ tail)) (sym held.same_office) (sym held.same_kind) records

  pub no_record : (IsRecord (office_of judge.office.now) judge.kind row → ⊥) → ⊥
  no_record none = none (all_mid (IsRecord (office_of judge.office.now) judge.kind) row rows tail own_records.each)

  pub same_record : (entry : Entry) → entry ≡ told judge.kind row → IfSome judge.last (λ l. entry_order l entry ≡ Equal) → IfNone judge.last (Equal ≡ Less) → ⊥
  same_record entry one tie none = read_twice (office_of judge.office.now) judge.kind rows tail row judge.found.items judge.last entry held.read held.behind one tie none own_records

-- ---- points and starts
module _ (first judge : KeptEntries) (rows tail : List Row) (row : Row) (held : HasCompared first rows judge) (kept : AreKept (office_of first.office.now) first.kind (rows ++ row ∷ tail)) where
  own_kept : AreKept (office_of judge.office.now) judge.kind (rows ++ row ∷ tail)
  own_kept = subst₂ (λ o k. AreKept (office_of o) k (rows ++ row ∷ tail)) (sym held.same_office) (sym held.same_kind) kept

  pub no_kept : (IsRecord (office_of judge.office.now) judge.kind row → ⊥) → ⊥
  no_kept none = none (all_mid (IsRecord (office_of judge.office.now) judge.kind) row rows tail own_kept.each)

  pub same_key : (entry : Entry) → entry ≡ told judge.kind row → IfSome judge.last (λ l. key_order l.key entry.key ≡ Equal) → IfNone judge.last (Equal ≡ Less) → ⊥
  same_key entry one tie none =
      key_twice (λ (x : Entry). x.key) key_numbers key-numbers-one (told judge.kind) rows tail row (option_map (λ (x : Entry). x.key) judge.last) entry held.behind one
      (some_mapped (λ (x : Entry). x.key) judge.last _ tie) (none_mapped (λ (x : Entry). x.key) judge.last _ none) own_kept.once

-- ---- totals
module _ (first judge : KeptTotals) (rows tail : List Row) (row : Row) (held : HasSummed first rows judge) (totals : AreTotals (office_of first.office.now) first.kind (rows ++ row ∷ tail)) where
  own_totals : AreTotals (office_of judge.office.now) judge.kind (rows ++ row ∷ tail)
  own_totals = subst₂ (λ o k. AreTotals (office_of o) k (rows ++ row ∷ tail)) (sym held.same_office) (sym held.same_kind) totals

  pub no_total : (IsTotal (office_of judge.office.now) judge.kind row → ⊥) → ⊥
  no_total none = none (all_mid (IsTotal (office_of judge.office.now) judge.kind) row rows tail own_totals.each)

  pub same_total : (total : TotalKey × ℕ) → total ≡ told_total judge.kind row → IfSome judge.last (λ l. total_order l total.0 ≡ Equal) → IfNone judge.last (Equal ≡ Less) → ⊥
  same_total total one tie none = key_twice (λ (t : TotalKey × ℕ). t.0) total_numbers totals_one (told_total judge.kind) rows tail row judge.last total held.behind one tie none own_totals.once
