use Rattle.std.proofs.Common.{List, refl}
use Rattle.pw_model.specs.declared.records.Entry.{Entry}
use Rattle.pw_shelf.specs.Rows.{ListsReadings}
use Rattle.pw_schema.specs.declared.kind.RecordKind.TheVariants.{Readings}
use Rattle.pw_store.proofs.OneKind.{read_if}
use Rattle.pw_store.proofs.asking.readings_kept.Goals as goal

pub returns-clause-rows : goal.returns-clause-rows
returns-clause-rows g c clean =
    read_if Readings c.in_ok-rows.rows.items c.as_slice.result.now c.read.result (λ (records : List Entry) (found : List Entry). ListsReadings records c.args.meter c.args.register found) _ _ c.as_slice.ensures.value refl (c.in_ok-rows.ensures.rows clean) c.read.ensures
