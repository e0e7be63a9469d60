use Rattle.pw_report.proofs.MonthDays.{AreSome}
use Rattle.pw_report.proofs.months.begins_of.Given as goal

abbrev pub invariant-loop-day : goal.invariant-loop-day
invariant-loop-day l = AreSome l.month l.begins.items l.day
