-- What a map in order tells, some of whose keys an upload has changed.
-- (Definitions of this project.)
use Rattle.std.specs.Prelude.{Bool, false, cond, Option, Some, None}
use Rattle.std.specs.BTreeMap.{get}
use Rattle.std.specs.declared.cmp.Ordering.{Ordering}
use Rattle.pw_shelf.specs.declared.table.Change.{Change}
use Rattle.pw_shelf.specs.declared.table.Table.{Table}

-- whether what stood at a key was taken away
abbrev pub taken : {X : Type 0} → Option (Change X) → Bool
taken None = false
taken (Some c) = c.gone

-- what stood there when the upload began
abbrev pub stood : {X : Type 0} → Option (Change X) → Option X → Option X
stood None row = row
stood (Some c) row = c.before

module _ {K X : Type 0} (order : K → K → Ordering) (t : Table K X) where
  abbrev pub is_taken : K → Bool
  is_taken k = taken (get order t.changed k)

  -- what stands at a key now: its row, but nothing where it was taken away
  abbrev pub at_now : K → Option X
  at_now k = cond (is_taken k) None (get order t.rows k)

  -- what stood there when the upload began
  abbrev pub at_begin : K → Option X
  at_begin k = stood (get order t.changed k) (get order t.rows k)
