use Rattle.std.proofs.Common.{◌≡◌, ℕ, ◌-◌, ◌<◌, ◌≤◌, Bool}
use Rattle.pw_flow.specs.Time.{sum_over}
use Rattle.pw_flow.specs.Flow.{pair_flow}
use Rattle.pw_flow.specs.Energy.{kept}
use Rattle.pw_flow.specs.Plain.{AnswersBy}
use Rattle.pw_flow.proofs.plain.pair_energy.Given as goal

abbrev pub invariant-loop-second : goal.invariant-loop-second
invariant-loop-second g l = record {
  -- the seconds so far, of those that are kept
  cell : (asked : ℕ → Bool) → AnswersBy (goal.F-post g l.keeps) asked →
      l.energy ≡ sum_over (kept asked (pair_flow (l.from.at, l.from.watt_hours) (l.to.at, l.to.watt_hours))) l.from.at (l.second - l.from.at);
  -- at most all of them, whatever the predicate answers
  at_most : l.energy ≤ sum_over (pair_flow (l.from.at, l.from.watt_hours) (l.to.at, l.to.watt_hours)) l.from.at (l.second - l.from.at);
  backwards : l.to.at < l.from.at → l.second ≡ l.from.at;
}
