use Rattle.std.proofs.Common.{take}
use Rattle.pw_carrying.specs.inner.Latest.{IsLastOf, IsReadAmong}
use Rattle.pw_carrying.proofs.readings.last_among.Given as goal

abbrev pub invariant-loop-row : goal.invariant-loop-row
invariant-loop-row l = record { last : IsLastOf (IsReadAmong (take l.row-index l.rows)) l.last }
