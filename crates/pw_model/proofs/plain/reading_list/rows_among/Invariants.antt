use Rattle.pw_model.specs.inner.Search.{RowsOf}
use Rattle.pw_model.proofs.SoFar.{IsSoFar}
use Rattle.pw_model.proofs.plain.reading_list.rows_among.Given as goal

abbrev pub invariant-loop-entry : goal.invariant-loop-entry
invariant-loop-entry l = IsSoFar (RowsOf l.standing l.in_order l.meter.0 l.register) l.in_order l.entry-index l.rows.items
