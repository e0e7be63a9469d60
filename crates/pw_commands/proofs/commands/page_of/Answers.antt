use Rattle.pw_report.proofs.Meters.{meter-within}
use Rattle.pw_commands.proofs.commands.page_of.Goals as goal

pub returns-in-Some : goal.returns-in-Some
returns-in-Some c = meter-within _ _ _ c.in-Some.ensures.some
