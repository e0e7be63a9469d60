use Rattle.std.proofs.Common.{rules}
use Rattle.pw_http.proofs.answers.refused_status.Goals as goal

pub returns-in_default : goal.returns-in_default
returns-in_default c = search rules

pub returns-in-Memory : goal.returns-in-Memory
returns-in-Memory c = search rules
