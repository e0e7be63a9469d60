-- What a set of records was before some were added.
-- (Definitions of this project.)
use Rattle.std.specs.Prelude.{List, [], ◌∷◌}
use Rattle.std.specs.BTreeMap.{is_at}
use Rattle.std.specs.Set.{remove_key}
use Rattle.pw_model.specs.declared.records.Entry.{Entry}
use Rattle.pw_shelf.specs.Orders.{record_order}

-- the records without those that were added, the last of them first
abbrev pub without : List Entry → List Entry → List Entry
without [] records = records
without (e ∷ added) records = remove_key (is_at (record_order e)) (without added records)
