use Rattle.std.specs.List.Sorted.{IsPermutation}
use Rattle.sqlite.specs.Held.{state}
use Rattle.sqlite.specs.State.{HasCleanDisk, IsUnchanged, Survives}
use Rattle.pw_tariff.specs.Office.{office_of}
use Rattle.pw_model.specs.Office.{AllOfOffice}
use Rattle.pw_store.proofs.Sound.{HoldsFirst, first_records}
use Rattle.pw_store.proofs.judging.check_records.Given as goal

abbrev pub invariant-loop-kind : goal.invariant-loop-kind
invariant-loop-kind g l =
    let office = office_of l.office in
    let old = state g.S.Store l.fn.conn in
    let now = state g.S.Store l.conn in
    record {
      hold : HasCleanDisk now → HoldsFirst l.kind-index office old.now.trees;
      listed : HasCleanDisk now → IsPermutation (first_records l.kind-index old.now.trees) l.all.items;
      of_office : AllOfOffice office l.all.items;
      same : HasCleanDisk now → IsUnchanged old now;
      crash : Survives old now (λ _. ⊥);
    }
