use Rattle.std.proofs.Common.{rules}
use Rattle.pw_http.proofs.answers.show_account.Goals as goal

pub returns-in-None : goal.returns-in-None
returns-in-None g c = search rules
