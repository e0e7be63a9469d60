use Rattle.std.proofs.Common.{rules}
use Rattle.pw_http.proofs.replies.closing_line.Goals as goal

pub returns-then-closing-clause-text : goal.returns-then-closing-clause-text
returns-then-closing-clause-text c = search rules
