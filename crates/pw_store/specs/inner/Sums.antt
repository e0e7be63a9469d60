-- What the rows of points, starts and totals are, as queries show them. It serves `src/sums.rt`.
-- (Definitions of this project.)
use Rattle.std.specs.Prelude.{ℕ, List, [], ◌∷◌, map}
use Rattle.std.specs.List.{AllByRecursion}
use Rattle.std.specs.List.Sorted.{IsPermutation}
use Rattle.sqlite.specs.Order.{Row, column}
use Rattle.sqlite.specs.Tree.{Trees, rowid}
use Rattle.pw_model.specs.declared.records.Entry.{Entry}
use Rattle.pw_model.specs.declared.records.TotalKey.{TotalKey}
use Rattle.pw_model.specs.Counting.{EachOnce}
use Rattle.pw_model.specs.Lists.{IsInOrder}
use Rattle.pw_schema.specs.declared.kind.RecordKind.{RecordKind}
use Rattle.pw_schema.specs.declared.kind.RecordKind.TheVariants.{Readings, Assignments}
use Rattle.pw_schema.specs.declared.kind.TotalKind.{TotalKind}
use Rattle.pw_schema.specs.declared.kind.TotalKind.TheVariants.{Energies, Payments}
use Rattle.pw_schema.specs.Judging.{by_key, by_total}
use Rattle.pw_store.specs.Content.{point_tree, start_tree, energy_tree, payment_tree, entry_in}
use Rattle.pw_store.specs.Keyed.{HasRowid}
use Rattle.pw_store.specs.Opening.{key_of_total}
use Rattle.pw_store.specs.inner.Opened.{amount_of_total}

-- all but the rowid; of a total of top-ups the account, which is the rowid
abbrev pub shown_total : TotalKind → Row → Row
shown_total Energies r = column r 1 ∷ column r 2 ∷ column r 3 ∷ column r 4 ∷ column r 5 ∷ []
shown_total Payments r = column r 0 ∷ column r 2 ∷ []

-- the rowid alone
abbrev pub shown_id : Row → Row
shown_id r = rowid r ∷ []

-- the rows have rowids, and none of them stands twice
pub record AreNumbered (rows : List Row) : Type 0 where
  pub ids : AllByRecursion HasRowid rows
  pub numbered : EachOnce (map rowid rows)

-- of all four tables
pub record AreAllNumbered (db : Trees) : Type 0 where
  pub points : AreNumbered (db point_tree)
  pub starts : AreNumbered (db start_tree)
  pub energies : AreNumbered (db energy_tree)
  pub payments : AreNumbered (db payment_tree)

-- the points or starts of a table are these, in the order of their keys
pub record TellsKept (k : RecordKind) (table : List Row) (found : List Entry) : Type 0 where
  pub told : IsPermutation (map (entry_in k) table) found
  pub rising : IsInOrder by_key found

abbrev pub total_in_row : TotalKind → Row → TotalKey × ℕ
total_in_row k r = (key_of_total k r, amount_of_total k r)

-- and the totals
pub record TellsTotals (k : TotalKind) (table : List Row) (found : List (TotalKey × ℕ)) : Type 0 where
  pub told : IsPermutation (map (total_in_row k) table) found
  pub rising : IsInOrder by_total found

-- points, starts and totals, each list in the order of its keys
pub record Listed : Type 0 where
  pub points : List Entry
  pub starts : List Entry
  pub energies : List (TotalKey × ℕ)
  pub payments : List (TotalKey × ℕ)

-- all of them
pub record TellsSums (db : Trees) (sums : Listed) : Type 0 where
  pub points_told : TellsKept Readings (db point_tree) sums.points
  pub starts_told : TellsKept Assignments (db start_tree) sums.starts
  pub energies_told : TellsTotals Energies (db energy_tree) sums.energies
  pub payments_told : TellsTotals Payments (db payment_tree) sums.payments
