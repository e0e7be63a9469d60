use Rattle.pw_report.proofs.Sums.{nothing-is-lost-in-export}
use Rattle.pw_report.proofs.laws.nothing_is_lost_in_the_export.Goals as goal

pub returns : goal.returns
returns c = nothing-is-lost-in-export
