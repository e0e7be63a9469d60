use Rattle.std.proofs.Common.{rules}
use Rattle.pw_http.proofs.books.converse.Goals as goal

pub returns-clause-talk : goal.returns-clause-talk
returns-clause-talk g c = search rules
