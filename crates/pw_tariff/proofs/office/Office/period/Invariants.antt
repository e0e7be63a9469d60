use Rattle.std.proofs.Common.{◌≡◌, ◌≤◌, count_by, nat_le, take}
use Rattle.pw_tariff.specs.declared.office.Period.{Period}
use Rattle.pw_tariff.proofs.office.Office.period.Given as goal

abbrev pub invariant-loop-period : goal.invariant-loop-period
invariant-loop-period l = record {
  begun : l.begun ≡ count_by (λ (p : Period). nat_le p.start l.instant) (take l.period-index l.period-items);
  few : l.begun ≤ l.period-index;
}
