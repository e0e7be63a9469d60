use Rattle.std.proofs.Common.{List, refl}
use Rattle.pw_model.specs.declared.records.Entry.{Entry}
use Rattle.pw_shelf.specs.Rows.{ListsAssignments}
use Rattle.pw_schema.specs.declared.kind.RecordKind.TheVariants.{Assignments}
use Rattle.pw_store.proofs.OneKind.{read_if}
use Rattle.pw_store.proofs.asking.assignments_kept.Goals as goal

pub returns-clause-rows : goal.returns-clause-rows
returns-clause-rows g c clean =
    read_if Assignments c.in_ok-rows.rows.items c.as_slice.result.now c.read.result (λ (records : List Entry) (found : List Entry). ListsAssignments records c.args.meter found) _ _ c.as_slice.ensures.value refl (c.in_ok-rows.ensures.rows clean) c.read.ensures
