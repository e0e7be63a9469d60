-- The rows that an answer gives.
-- (Definitions of this project.)
use Rattle.std.specs.Prelude.{ℕ, zero, suc, List, Option, Some, None, Vec, Result, Ok, Err, vec_len}
use Rattle.std.specs.Global.{Global}
use Rattle.pw_obis.specs.declared.reference.Register.{Register}
use Rattle.pw_tariff.specs.declared.ids.MeterId.{MeterId}
use Rattle.pw_model.specs.declared.records.Entry.{Entry}
use Rattle.pw_model.specs.declared.records.Contents.{Contents}
use Rattle.pw_model.specs.declared.records.Contents.TheVariants.{Nothing, One, Several}
pub use Rattle.pw_model.specs.Kinds.{IsReadingOf, IsAssignmentOf, IsTopUp, IsWithdrawal, ListsHeld}
use Rattle.pw_shelf.specs.declared.fault.ShelfFault.{ShelfFault}

-- ---- which records a list has
abbrev pub ListsReadings : List Entry → MeterId → Register → List Entry → Type 0
ListsReadings records m r = ListsHeld (IsReadingOf m r) records

abbrev pub ListsAssignments : List Entry → MeterId → List Entry → Type 0
ListsAssignments records m = ListsHeld (IsAssignmentOf m) records

abbrev pub ListsTopUps : List Entry → List Entry → Type 0
ListsTopUps records = ListsHeld IsTopUp records

abbrev pub ListsWithdrawals : List Entry → List Entry → Type 0
ListsWithdrawals records = ListsHeld IsWithdrawal records

-- ---- how many rows an answer gives
abbrev pub no_rows : {T : Type 0} → T → ℕ
no_rows answer = 0

abbrev pub rows_listed : {T : Type 0} → Vec T Global → ℕ
rows_listed found = vec_len found

abbrev pub rows_at : Contents → ℕ
rows_at Nothing = 0
rows_at (One c) = 1
rows_at Several = 2

abbrev pub rows_found : {T : Type 0} → Option T → ℕ
rows_found None = 0
rows_found (Some row) = 1

-- an absent total and one of 0 answer alike, and give none
abbrev pub rows_total : ℕ → ℕ
rows_total zero = 0
rows_total (suc amount) = 1

-- none with a fault
abbrev pub rows_given : {T : Type 0} → (T → ℕ) → Result T ShelfFault → ℕ
rows_given rows (Ok answer) = rows answer
rows_given rows (Err fault) = 0
