-- What one step of reading rows, or the way to a frame's origin, is given. It serves `src/rows.rt`, `src/origin.rt`.
use Rattle.std.specs.Prelude.{List, ◌≡◌, ℕ, ◌<◌, ◌⊎◌, length, ◌≤◌, [], ◌∷◌, ◌++◌}
use Rattle.pw_model.specs.declared.records.Entry.{Entry}
use Rattle.pw_tariff.specs.Office.{OfficeFile}
use Rattle.pw_record.specs.declared.origin.Source.{Source}
use Rattle.pw_record.specs.declared.origin.Source.TheVariants.{Telegrams, Readouts}
use Rattle.pw_record.specs.declared.row.RowKind.{RowKind}
use Rattle.pw_record.specs.declared.rows.TheConstants.{MOST_ROWS}
use Rattle.pw_record.specs.Row.{Row, header_of, GivesEntry}

-- the source's meter is one of the office's
abbrev pub IsSourceOf : OfficeFile → Source → Type 0
IsSourceOf file Telegrams = Unit {0}
IsSourceOf file (Readouts meter clock) = meter.0 < length file.meters

abbrev pub TakesRecord : OfficeFile → RowKind → ℕ → Row → List Entry → List Entry → Type 0
TakesRecord file kind part row old new =
    ((part ≡ 0) × (row ≡ header_of kind) × (new ≡ old))
    ⊎ ((1 ≤ part) × (part ≤ MOST_ROWS) × ((entry : Entry) × GivesEntry file kind row entry × (new ≡ old ++ entry ∷ [])))
