use Rattle.std.proofs.Common.{rules}
use Rattle.pw_http.proofs.answers.content_of.Goals as goal

pub returns-in-Table-Readings : goal.returns-in-Table-Readings
returns-in-Table-Readings c = search rules
