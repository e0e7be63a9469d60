use Rattle.std.proofs.Common.{◌≡◌, ◌++◌, List, All}
use Rattle.pw_obis.specs.Line.{SetText}
use Rattle.pw_read.specs.Instant.{TellsNo}
use Rattle.pw_read.proofs.moment.first_told.Given as goal

abbrev pub invariant-sets : goal.invariant-sets
invariant-sets l = (done : List SetText) × (l.block ≡ done ++ l.set-iterator) × All (TellsNo l.meaning) done
