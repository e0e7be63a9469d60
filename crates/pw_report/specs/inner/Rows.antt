-- A CSV writer and the row that is being made. It serves `src/rows.rt`.
use Rattle.std.specs.Prelude.{◌≡◌, ℕ, true, false, List, [], ◌++◌, Result, OnOk}
use Rattle.csv.specs.Records.{fields_of, partial_of}
use Rattle.csv.specs.Writing.{default_writer, fields_written, has_written, with_flexible, writer_pending, writer_setup, writer_under}
use Rattle.csv.specs.declared.writer.WriterBuilder.{WriterBuilder}
use Rattle.pw_report.specs.declared.rows.Rows.{Rows}

-- rows of one text may have different numbers of fields
abbrev pub flexible_writer : WriterBuilder
flexible_writer = with_flexible default_writer true

-- this text is written, and the row has these fields so far
pub record HasText (rows : Rows) (text : List ℕ) (fields : List (List ℕ)) : Type 0 where
  pub setup : writer_setup rows.writer ≡ flexible_writer
  pub none : fields_written rows.writer ≡ 0
  pub ended : has_written rows.writer ≡ false
  pub text_is : (writer_under rows.writer).items ++ writer_pending rows.writer ≡ text
  pub fields_are : fields_of rows.row ≡ fields
  pub whole : partial_of rows.row ≡ []

-- behind an answer Ok: where a row has these fields so far, it has these behind them
abbrev pub AddsFields : {T E : Type 0} → Result T E → List (List ℕ) → Rows → Rows → Type 0
AddsFields answer more old new = (before : List ℕ) (fields : List (List ℕ)) → HasText old before fields → OnOk answer (HasText new before (fields ++ more))

-- so with text, where no row is begun
abbrev pub AddsLines : {T E : Type 0} → Result T E → List ℕ → Rows → Rows → Type 0
AddsLines answer more old new = (before : List ℕ) → HasText old before [] → OnOk answer (HasText new (before ++ more) [])
