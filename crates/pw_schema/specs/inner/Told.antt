-- What a row is read as. It serves `src/reading.rt` and `src/total_rows.rt`.
use Rattle.std.specs.Prelude.{◌≡◌, ℕ, IfNone, IfSome, Option}
use Rattle.sqlite.specs.Order.{Row}
use Rattle.pw_tariff.specs.Office.{OfficeRules}
use Rattle.pw_model.specs.Office.{IsOffice}
use Rattle.pw_model.specs.declared.records.Entry.{Entry}
use Rattle.pw_model.specs.declared.records.TotalKey.{TotalKey}
use Rattle.pw_schema.specs.declared.kind.RecordKind.{RecordKind}
use Rattle.pw_schema.specs.declared.kind.TotalKind.{TotalKind}
use Rattle.pw_schema.specs.Judging.{IsRecord, IsTotal}
use Rattle.pw_schema.specs.Rows.{Tells, TellsTotal, told, told_amount, told_key}

-- the record of this kind that the row tells; none where it is a record of no office
pub record ReadsEntry (k : RecordKind) (row : Row) (answer : Option Entry) : Type 0 where
  pub is : IfSome answer (λ entry. entry ≡ told k row)
  pub kinds : IfSome answer (λ entry. Tells k row)
  pub none : IfNone answer ((office : OfficeRules) → IsOffice office → IsRecord office k row → ⊥)

-- the total of this kind that the row tells, with its key; none where it is a total of no office
pub record ReadsTotal (k : TotalKind) (row : Row) (answer : Option (TotalKey × ℕ)) : Type 0 where
  pub is : IfSome answer (λ total. (total.0 ≡ told_key k row) × (total.1 ≡ told_amount k row))
  pub kinds : IfSome answer (λ total. TellsTotal k row)
  pub none : IfNone answer ((office : OfficeRules) → IsOffice office → IsTotal office k row → ⊥)
