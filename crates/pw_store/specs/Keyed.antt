-- The rows of a table that has a key.
-- (A format of this project.)
use Rattle.std.specs.Prelude.{◌≡◌, List, map}
use Rattle.std.specs.List.{AllByRecursion}
use Rattle.sqlite.specs.declared.types.Value.TheVariants.{Int}
use Rattle.sqlite.specs.Order.{Row, column}
use Rattle.sqlite.specs.Tree.{rowid}
use Rattle.sqlite.specs.Edit.{id_in}
use Rattle.pw_model.specs.Counting.{EachOnce}
use Rattle.pw_schema.specs.Rows.{IsDirection, IsNumber}

-- the values of a row of `period_total`, behind its rowid, are of the kinds of those of a total of energy
abbrev pub IsEnergyRow : Row → Type 0
IsEnergyRow r = IsNumber (column r 1) × (IsNumber (column r 2) × (IsNumber (column r 3) × (IsDirection (column r 4) × IsNumber (column r 5))))

-- of `total_topup`, whose account is the rowid
abbrev pub IsPaymentRow : Row → Type 0
IsPaymentRow r = IsNumber (column r 0) × IsNumber (column r 2)

-- the row has a rowid
abbrev pub HasRowid : Row → Type 0
HasRowid r = rowid r ≡ Int (id_in (rowid r))

-- each row is of the kinds asked for, and neither a rowid nor a key stands twice
pub record AreKeyed {K : Type 0} (IsRow : Row → Type 0) (key_in : Row → K) (rows : List Row) : Type 0 where
  pub each : AllByRecursion IsRow rows
  pub ids : AllByRecursion HasRowid rows
  pub numbered : EachOnce (map rowid rows)
  pub once : EachOnce (map key_in rows)
