use Rattle.std.proofs.Common.{rules}
use Rattle.pw_schema.proofs.office.judge_version.Goals as goal

pub returns-in-None-clause-missing : goal.returns-in-None-clause-missing
returns-in-None-clause-missing c = search rules depth 0 fits 100
