use Rattle.std.proofs.Common.{◌≡◌, take}
use Rattle.pw_moving.specs.Renaming.{AllCanBeCarried, all_carried}
use Rattle.pw_carrying.proofs.renamed.all_carried.Given as goal

abbrev pub invariant-loop-entry : goal.invariant-loop-entry
invariant-loop-entry l = record {
  found : l.found.items ≡ all_carried (record { old = l.basis.office.now; new = l.new }) (take l.entry-index l.records);
  able : AllCanBeCarried (record { old = l.basis.office.now; new = l.new }) (take l.entry-index l.records);
}
