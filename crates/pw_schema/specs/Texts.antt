-- The texts that make the tables of a store.
-- (A format of this project.)
use Rattle.std.specs.Prelude.{ℕ, List, [], ◌∷◌, codes, map}
use Rattle.pw_schema.specs.declared.table.StoreTable.{StoreTable}
use Rattle.pw_schema.specs.declared.table.StoreTable.TheVariants.{Office, Readings, Assignments, TopUps, Points, Starts, Totals, TotalTopUps, WithdrawnReadings, WithdrawnAssignments, WithdrawnTopUps, PeriodTotals}

-- the tables in the order in which they are made
abbrev pub all_tables : List StoreTable
all_tables =
    Office ∷ Readings ∷ Assignments ∷ TopUps ∷ Points ∷ Starts ∷ Totals ∷ TotalTopUps
    ∷ WithdrawnReadings ∷ WithdrawnAssignments ∷ WithdrawnTopUps ∷ PeriodTotals ∷ []

-- the text that makes one
abbrev pub text_of : StoreTable → List ℕ
text_of Office = codes "CREATE TABLE office (id INTEGER PRIMARY KEY CHECK (id = 1), version INTEGER NOT NULL, body BLOB NOT NULL) STRICT"
text_of Readings = codes "CREATE TABLE record_reading (meter INTEGER NOT NULL, register INTEGER NOT NULL, instant INTEGER NOT NULL, wh INTEGER NOT NULL, PRIMARY KEY (meter, register, instant, wh)) STRICT"
text_of Assignments = codes "CREATE TABLE record_assignment (meter INTEGER NOT NULL, start INTEGER NOT NULL, owner INTEGER NOT NULL, PRIMARY KEY (meter, start, owner)) STRICT"
text_of TopUps = codes "CREATE TABLE record_topup (reference TEXT NOT NULL, account INTEGER NOT NULL, cents INTEGER NOT NULL, instant INTEGER NOT NULL, PRIMARY KEY (reference, account, cents, instant)) STRICT"
text_of Points = codes "CREATE TABLE point (meter INTEGER NOT NULL, register INTEGER NOT NULL, instant INTEGER NOT NULL, wh INTEGER NOT NULL, PRIMARY KEY (meter, register, instant)) STRICT"
text_of Starts = codes "CREATE TABLE start (meter INTEGER NOT NULL, start INTEGER NOT NULL, owner INTEGER NOT NULL, PRIMARY KEY (meter, start)) STRICT"
text_of Totals = codes "CREATE TABLE total (owner INTEGER NOT NULL, band INTEGER NOT NULL, direction INTEGER NOT NULL, wh INTEGER NOT NULL, PRIMARY KEY (owner, band, direction)) STRICT"
text_of TotalTopUps = codes "CREATE TABLE total_topup (account INTEGER PRIMARY KEY, cents INTEGER NOT NULL) STRICT"
text_of WithdrawnReadings = codes "CREATE TABLE withdrawn_reading (meter INTEGER NOT NULL, register INTEGER NOT NULL, instant INTEGER NOT NULL, wh INTEGER NOT NULL, PRIMARY KEY (meter, register, instant, wh)) STRICT"
text_of WithdrawnAssignments = codes "CREATE TABLE withdrawn_assignment (meter INTEGER NOT NULL, start INTEGER NOT NULL, owner INTEGER NOT NULL, PRIMARY KEY (meter, start, owner)) STRICT"
text_of WithdrawnTopUps = codes "CREATE TABLE withdrawn_topup (reference TEXT NOT NULL, account INTEGER NOT NULL, cents INTEGER NOT NULL, instant INTEGER NOT NULL, PRIMARY KEY (reference, account, cents, instant)) STRICT"
text_of PeriodTotals = codes "CREATE TABLE period_total (owner INTEGER NOT NULL, period INTEGER NOT NULL, band INTEGER NOT NULL, direction INTEGER NOT NULL, wh INTEGER NOT NULL, PRIMARY KEY (owner, period, band, direction)) STRICT"

-- of all of them, in that order
abbrev pub table_texts : List (List ℕ)
table_texts = map text_of all_tables
