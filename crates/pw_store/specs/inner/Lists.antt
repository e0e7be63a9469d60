-- What the rows that a query shows say of the records held. It serves `src/meters.rt` and `src/asking.rt`.
-- (Definitions of this project.)
use Rattle.std.specs.Prelude.{◌≡◌, List, [], ◌∷◌}
use Rattle.sqlite.specs.Order.{Row, column}
use Rattle.sqlite.specs.Tree.{Trees}
use Rattle.pw_model.specs.declared.records.Key.{Key}
use Rattle.pw_model.specs.declared.records.Key.TheVariants as key
use Rattle.pw_model.specs.declared.records.Named.{Named}
use Rattle.pw_model.specs.declared.records.Named.TheVariants as named
use Rattle.pw_model.specs.declared.records.Entry.{Entry}
use Rattle.pw_shelf.specs.Rows.{ListsAssignments, ListsHeld, ListsReadings, ListsTopUps, ListsWithdrawals}
use Rattle.pw_schema.specs.declared.kind.RecordKind.{RecordKind}
use Rattle.pw_schema.specs.declared.kind.RecordKind.TheVariants.{Readings, Assignments, TopUps, WithdrawnReadings, WithdrawnAssignments, WithdrawnTopUps}
use Rattle.pw_schema.specs.Rows.{ReadsRows}
use Rattle.pw_store.specs.Content.{records_of}
use Rattle.pw_store.specs.declared.asking.Listed.{Listed}
use Rattle.pw_store.specs.declared.asking.Listed.TheVariants as listed

-- ---- as which kind a record is kept, by its key
abbrev pub kind_of_named : Named → RecordKind
kind_of_named (named.Reading m r t w) = WithdrawnReadings
kind_of_named (named.Assignment m t o) = WithdrawnAssignments
kind_of_named (named.TopUp r a c t) = WithdrawnTopUps

abbrev pub kind_at : Key → RecordKind
kind_at (key.Reading m r t) = Readings
kind_at (key.Assignment m t) = Assignments
kind_at (key.TopUp r) = TopUps
kind_at (key.Withdrawal n) = kind_of_named n

abbrev pub IsKeptAs : RecordKind → Key → Type 0
IsKeptAs k x = kind_at x ≡ k

-- ---- what is shown of a row: all but its rowid
abbrev pub shown : RecordKind → Row → Row
shown Readings r = column r 1 ∷ column r 2 ∷ column r 3 ∷ column r 4 ∷ []
shown Assignments r = column r 1 ∷ column r 2 ∷ column r 3 ∷ []
shown TopUps r = column r 1 ∷ column r 2 ∷ column r 3 ∷ column r 4 ∷ []
shown WithdrawnReadings r = column r 1 ∷ column r 2 ∷ column r 3 ∷ column r 4 ∷ []
shown WithdrawnAssignments r = column r 1 ∷ column r 2 ∷ column r 3 ∷ []
shown WithdrawnTopUps r = column r 1 ∷ column r 2 ∷ column r 3 ∷ column r 4 ∷ []

-- whatever records are read from the rows, they are those of the tables that have such a key
abbrev pub ShowsKept : RecordKind → (Key → Type 0) → Trees → List Row → Type 0
ShowsKept k Of db rows = (found : List Entry) → ReadsRows k rows found → ListsHeld Of (records_of db) found

-- ---- what a question lists
abbrev pub ListsThese : Listed → List Entry → List Entry → Type 0
ListsThese (listed.Readings meter register) records found = ListsReadings records meter register found
ListsThese (listed.Assignments meter) records found = ListsAssignments records meter found
ListsThese listed.TopUps records found = ListsTopUps records found
ListsThese listed.Withdrawals records found = ListsWithdrawals records found
