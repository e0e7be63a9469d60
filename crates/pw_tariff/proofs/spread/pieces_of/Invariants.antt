use Rattle.std.proofs.Common.{◌≤◌, ◌-◌}
use Rattle.pw_tariff.proofs.Gathered.{GoOn}
use Rattle.pw_tariff.proofs.spread.pieces_of.Given as goal

abbrev pub invariant-loop-basis : goal.invariant-loop-basis
invariant-loop-basis l = record {
  begun : l.span.from ≤ l.at;
  within : l.at ≤ l.span.to;
  listed : GoOn l.office l.fn.owners l.span l.at l.pieces.items;
}

abbrev pub decreases-loop-basis : goal.decreases-loop-basis
decreases-loop-basis l = l.span.to - l.at
