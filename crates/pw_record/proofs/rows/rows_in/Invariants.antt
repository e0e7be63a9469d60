use Rattle.std.proofs.Common.{◌≡◌, ◌<◌, ℕ, List, Some, length}
use Rattle.csv.specs.Reading.{Reached, Ready, default_config, source_of, strip_bom}
use Rattle.csv.specs.declared.parser.State.TheVariants as st
use Rattle.csv.specs.declared.reader.Trim.TheVariants as trim
use Rattle.pw_record.specs.Row.{Row}
use Rattle.pw_record.specs.Rows.{AreGoodRecords}
use Rattle.pw_record.proofs.rows.rows_in.Given as goal

abbrev pub invariant-loop-row : goal.invariant-loop-row
invariant-loop-row l = (l.row-iterator.rdr.trim ≡ trim.None) × Ready l.row-iterator.rdr × (0 < l.row-iterator.left) × (l.row-iterator.rdr.config ≡ default_config)
    × (y : List ℕ) × (source_of (λ s. Some s.now) l.row-iterator.rdr ≡ Some y) × (records : List Row)
    × Reached default_config st.StartRecord (strip_bom l.fn.body) records l.row-iterator.rdr.state y
    × AreGoodRecords l.office l.kind records l.given.items × (l.part ≡ length records)
