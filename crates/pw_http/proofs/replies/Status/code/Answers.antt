use Rattle.std.proofs.Common.{rules}
use Rattle.pw_http.proofs.replies.Status.code.Goals as goal

pub returns : goal.returns
returns c = search rules
