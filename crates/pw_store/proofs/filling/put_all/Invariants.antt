use Rattle.std.proofs.Common.{take}
use Rattle.sqlite.specs.Held.{state}
use Rattle.sqlite.specs.State.{HasCleanDisk, KeepsCommit, Survives}
use Rattle.pw_schema.specs.Fresh.{IsWithin}
use Rattle.pw_schema.specs.Raised.{HasSame, lasting_trees}
use Rattle.pw_schema.specs.Tables.{schema_of}
use Rattle.pw_schema.specs.declared.kind.StoreVersion.TheVariants.{Third}
use Rattle.pw_store.specs.inner.Filling.{TellsMore}
use Rattle.pw_store.proofs.filling.put_all.Given as goal

abbrev pub invariant-loop-key : goal.invariant-loop-key
invariant-loop-key g l =
    let old = state g.S.Store l.fn.conn in
    let now = state g.S.Store l.conn in
    record {
      within : HasCleanDisk now → IsWithin (schema_of Third) now;
      lasting : HasCleanDisk now → HasSame lasting_trees old.now.trees now.now.trees;
      told : HasCleanDisk now → TellsMore (take l.key-index l.totals) old.now.trees now.now.trees;
      kept : HasCleanDisk now → KeepsCommit old now;
      crash : Survives old now (λ _. ⊥);
    }
