use Rattle.pw_moving.specs.Tables.{HasMeters}
use Rattle.pw_moving.proofs.renaming.meters_of.Given as goal

abbrev pub invariant-loop-meter : goal.invariant-loop-meter
invariant-loop-meter l = HasMeters (record { old = l.old; new = l.new }) l.meter l.table.items
