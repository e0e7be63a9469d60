use Rattle.std.proofs.Common.{◌<◌, ◌≤◌, ◌-◌}
use Rattle.pw_tariff.proofs.Runs.{AreOf}
use Rattle.pw_tariff.proofs.pieces.run_at.Given as goal

abbrev pub invariant-loop-until : goal.invariant-loop-until
invariant-loop-until l = record {
  begun : l.second < l.until;
  within : l.until ≤ l.end;
  same : AreOf l.basis.office.now l.basis.owners.now l.class l.second l.until;
}

abbrev pub decreases-loop-until : goal.decreases-loop-until
decreases-loop-until l = l.end - l.until
