use Rattle.std.proofs.Common.{sym}
use Rattle.std.proofs.lemmas.Bool.Decides.{Decides-eqb}
use Rattle.std.proofs.lemmas.Slice.Eq.{slice_eq-Decides}
use Rattle.csv.specs.Records.{fields_of}
use Rattle.pw_record.proofs.Fields.{begins}
use Rattle.pw_record.proofs.row.begins_with.Goals as goal

pub returns : goal.returns
returns c =
    begins (fields_of c.args.row.now) c.in-Some.field.now c.args.first.now c.eq.result (sym c.in-Some.ensures.value) (slice_eq-Decides Decides-eqb c.in-Some.field.now c.args.first.now c.eq.result c.eq.ensures)
