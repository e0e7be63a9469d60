use Rattle.std.proofs.Common.{rules}
use Rattle.pw_http.proofs.answers.answer_at.Goals as goal

pub returns-in-Table : goal.returns-in-Table
returns-in-Table g c = search rules
