-- What the tables hold.
-- (A format of this project. Trees are numbered by the place of their object in the file's list of objects.)
use Rattle.std.specs.Prelude.{◌≡◌, ℕ, pos, Option, List, [], ◌∷◌, ◌++◌, map, find, option_map, unwrap_or}
use Rattle.sqlite.specs.declared.types.Value.TheVariants.{Int, Text}
use Rattle.sqlite.specs.Order.{Row, column}
use Rattle.sqlite.specs.Tree.{Trees}
use Rattle.pw_obis.specs.declared.reference.Register.{Register}
use Rattle.pw_tariff.specs.declared.ids.AccountId.{AccountId}
use Rattle.pw_tariff.specs.Office.{OfficeRules, register_place}
use Rattle.pw_model.specs.declared.records.Key.TheVariants as key
use Rattle.pw_model.specs.declared.records.Content.TheVariants as content
use Rattle.pw_model.specs.declared.records.Entry.{Entry}
use Rattle.pw_model.specs.declared.records.Named.TheVariants as named
use Rattle.pw_model.specs.declared.records.TotalKey.{TotalKey}
use Rattle.pw_model.specs.declared.records.TotalKey.TheVariants as total
use Rattle.pw_model.specs.Counting.{assignment_key, reading_key}
use Rattle.pw_model.specs.Same.{same_key}
use Rattle.pw_model.specs.Shelf.{ShelfContent, total_among}
use Rattle.pw_shelf.specs.Changes.{same_total}
use Rattle.pw_schema.specs.declared.kind.RecordKind.{RecordKind}
use Rattle.pw_schema.specs.declared.kind.RecordKind.TheVariants.{Readings, Assignments, TopUps, WithdrawnReadings, WithdrawnAssignments, WithdrawnTopUps}
use Rattle.pw_schema.specs.declared.kind.StoreVersion.{StoreVersion}
use Rattle.pw_schema.specs.declared.kind.StoreVersion.TheVariants.{First, Second, Third}
use Rattle.pw_schema.specs.Rows.{direction_at, number, owner_at, register_at, text, withdrawal}

-- where each table's rows are
abbrev pub reading_tree : ℕ
reading_tree = 1

abbrev pub assignment_tree : ℕ
assignment_tree = 3

abbrev pub topup_tree : ℕ
topup_tree = 5

abbrev pub point_tree : ℕ
point_tree = 7

abbrev pub start_tree : ℕ
start_tree = 9

-- of totals of energy by owner, band and direction alone, as versions before the third keep them
abbrev pub total_tree : ℕ
total_tree = 11

abbrev pub payment_tree : ℕ
payment_tree = 13

abbrev pub withdrawn_reading_tree : ℕ
withdrawn_reading_tree = 14

abbrev pub withdrawn_assignment_tree : ℕ
withdrawn_assignment_tree = 16

abbrev pub withdrawn_topup_tree : ℕ
withdrawn_topup_tree = 18

-- of totals of energy by owner, period, band and direction
abbrev pub energy_tree : ℕ
energy_tree = 20

-- ---- the record of a row of a table, behind its rowid
abbrev pub reading_in : Row → Entry
reading_in r = record { key = key.Reading (record { 0 = number (column r 1) }) (register_at (number (column r 2))) (number (column r 3)); content = content.Reading (number (column r 4)) }

abbrev pub assignment_in : Row → Entry
assignment_in r = record { key = key.Assignment (record { 0 = number (column r 1) }) (number (column r 2)); content = content.Assignment (owner_at (number (column r 3))) }

abbrev pub topup_in : Row → Entry
topup_in r = record { key = key.TopUp (text (column r 1)); content = content.TopUp (record { 0 = number (column r 2) }) (number (column r 3)) (number (column r 4)) }

-- of a table of withdrawn records, the withdrawal that names such a record
abbrev pub withdrawn_reading_in : Row → Entry
withdrawn_reading_in r =
    withdrawal (named.Reading (record { 0 = number (column r 1) }) (register_at (number (column r 2))) (number (column r 3)) (number (column r 4)))

abbrev pub withdrawn_assignment_in : Row → Entry
withdrawn_assignment_in r =
    withdrawal (named.Assignment (record { 0 = number (column r 1) }) (number (column r 2)) (owner_at (number (column r 3))))

abbrev pub withdrawn_topup_in : Row → Entry
withdrawn_topup_in r =
    withdrawal (named.TopUp (text (column r 1)) (record { 0 = number (column r 2) }) (number (column r 3)) (number (column r 4)))

-- the values of the row are of the kinds of that of a record
abbrev pub IsReadingRow : Row → Type 0
IsReadingRow r =
    (column r 1 ≡ Int (pos (number (column r 1)))) × ((column r 2 ≡ Int (pos (register_place (register_at (number (column r 2)))))) × ((column r 3 ≡ Int (pos (number (column r 3)))) × (column r 4 ≡ Int (pos (number (column r 4))))))

abbrev pub IsAssignmentRow : Row → Type 0
IsAssignmentRow r = (column r 1 ≡ Int (pos (number (column r 1)))) × ((column r 2 ≡ Int (pos (number (column r 2)))) × (column r 3 ≡ Int (pos (number (column r 3)))))

abbrev pub IsTopupRow : Row → Type 0
IsTopupRow r = (column r 1 ≡ Text (text (column r 1))) × ((column r 2 ≡ Int (pos (number (column r 2)))) × ((column r 3 ≡ Int (pos (number (column r 3)))) × (column r 4 ≡ Int (pos (number (column r 4))))))

-- ---- of a kind: where its rows are, and what one of them is
abbrev pub tree_of : RecordKind → ℕ
tree_of Readings = reading_tree
tree_of Assignments = assignment_tree
tree_of TopUps = topup_tree
tree_of WithdrawnReadings = withdrawn_reading_tree
tree_of WithdrawnAssignments = withdrawn_assignment_tree
tree_of WithdrawnTopUps = withdrawn_topup_tree

abbrev pub entry_in : RecordKind → Row → Entry
entry_in Readings r = reading_in r
entry_in Assignments r = assignment_in r
entry_in TopUps r = topup_in r
entry_in WithdrawnReadings r = withdrawn_reading_in r
entry_in WithdrawnAssignments r = withdrawn_assignment_in r
entry_in WithdrawnTopUps r = withdrawn_topup_in r

abbrev pub IsRowOf : RecordKind → Row → Type 0
IsRowOf Readings r = IsReadingRow r
IsRowOf Assignments r = IsAssignmentRow r
IsRowOf TopUps r = IsTopupRow r
IsRowOf WithdrawnReadings r = IsReadingRow r
IsRowOf WithdrawnAssignments r = IsAssignmentRow r
IsRowOf WithdrawnTopUps r = IsTopupRow r

abbrev pub entries_of : RecordKind → Trees → List Entry
entries_of k db = map (entry_in k) (db (tree_of k))

-- ---- all of them
-- the kinds that a version has tables for
abbrev pub kinds_of : StoreVersion → List RecordKind
kinds_of First = Readings ∷ Assignments ∷ TopUps ∷ []
kinds_of Second = Readings ∷ Assignments ∷ TopUps ∷ WithdrawnReadings ∷ WithdrawnAssignments ∷ WithdrawnTopUps ∷ []
kinds_of Third = Readings ∷ Assignments ∷ TopUps ∷ WithdrawnReadings ∷ WithdrawnAssignments ∷ WithdrawnTopUps ∷ []

abbrev pub records_among : List RecordKind → Trees → List Entry
records_among [] db = []
records_among (k ∷ kinds) db = entries_of k db ++ records_among kinds db

-- of the tables of a version
abbrev pub records_of_version : StoreVersion → Trees → List Entry
records_of_version v db = records_among (kinds_of v) db

-- of a store that is open: the records of the three older kinds, and behind them the withdrawals
abbrev pub records_of : Trees → List Entry
records_of db = records_of_version Third db

-- ---- points, starts and totals: a point is kept as a reading is, a start as an assignment
-- the key of a total in a row of `period_total`, behind its rowid
abbrev pub energy_in : Row → TotalKey
energy_in r =
    total.Energy (owner_at (number (column r 1))) (record { 0 = number (column r 2) }) (record { 0 = number (column r 3) }) (direction_at (number (column r 4)))

-- the key of a total in a row of `total_topup`, whose account is the rowid
abbrev pub payment_in : Row → TotalKey
payment_in r = total.TopUps (record { 0 = number (column r 0) })

-- the value of the first row with a key
abbrev pub point_in : List Row → ℕ → Register → ℕ → Option ℕ
point_in rows m r t = option_map (λ x. number (column x 4)) (find (λ x. same_key (reading_key m r t) (reading_in x).key) rows)

abbrev pub start_in : List Row → ℕ → ℕ → Option (Option AccountId)
start_in rows m t = option_map (λ x. owner_at (number (column x 3))) (find (λ x. same_key (assignment_key m t) (assignment_in x).key) rows)

abbrev pub energy_told : List Row → TotalKey → Option ℕ
energy_told rows k = option_map (λ x. number (column x 5)) (find (λ x. same_total k (energy_in x)) rows)

abbrev pub payment_told : List Row → TotalKey → Option ℕ
payment_told rows k = option_map (λ x. number (column x 2)) (find (λ x. same_total k (payment_in x)) rows)

-- absent is 0
abbrev pub total_in : Trees → TotalKey → ℕ
total_in db (total.Energy o p b d) = unwrap_or (energy_told (db energy_tree) (total.Energy o p b d)) 0
total_in db (total.TopUps a) = unwrap_or (payment_told (db payment_tree) (total.TopUps a)) 0

-- ---- the content
-- of a store that is open
abbrev pub content_of : Trees → ShelfContent
content_of db = record {
  records = records_of db;
  point = point_in (db point_tree);
  start = start_in (db start_tree);
  total = total_in db;
}

-- a version before the third keeps no energies by period: what the records of its tables give stands for them
abbrev pub earlier_total : OfficeRules → StoreVersion → Trees → TotalKey → ℕ
earlier_total office v db (total.Energy o p b d) = total_among office (records_of_version v db) (total.Energy o p b d)
earlier_total office v db (total.TopUps a) = total_in db (total.TopUps a)

abbrev pub total_of_version : OfficeRules → StoreVersion → Trees → TotalKey → ℕ
total_of_version office First db = earlier_total office First db
total_of_version office Second db = earlier_total office Second db
total_of_version office Third db = total_in db

-- of the tables of a version
abbrev pub content_of_version : OfficeRules → StoreVersion → Trees → ShelfContent
content_of_version office v db = record {
  records = records_of_version v db;
  point = point_in (db point_tree);
  start = start_in (db start_tree);
  total = total_of_version office v db;
}
