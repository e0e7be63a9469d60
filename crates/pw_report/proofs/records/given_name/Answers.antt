use Rattle.std.proofs.Common.{rules}
use Rattle.pw_report.proofs.records.given_name.Goals as goal

pub returns-in-None : goal.returns-in-None
returns-in-None c = search rules depth 0 fits 100
