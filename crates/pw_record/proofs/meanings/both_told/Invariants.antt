use Rattle.std.proofs.Common.{◌≡◌, ◌++◌, List}
use Rattle.pw_obis.specs.Line.{SetText}
use Rattle.pw_record.specs.inner.Told.{AreTelling}
use Rattle.pw_record.proofs.meanings.both_told.Given as goal

abbrev pub invariant-sets : goal.invariant-sets
invariant-sets l = (done : List SetText) × (l.block ≡ done ++ l.set-iterator) × AreTelling l.one done l.first × AreTelling l.other done l.second
