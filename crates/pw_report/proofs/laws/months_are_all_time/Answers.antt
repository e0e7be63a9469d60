use Rattle.pw_report.proofs.MonthsFollow.{months-are-all-time}
use Rattle.pw_report.proofs.laws.months_are_all_time.Goals as goal

pub returns : goal.returns
returns c = months-are-all-time
