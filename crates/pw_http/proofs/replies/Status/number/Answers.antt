use Rattle.std.proofs.Common.{rules}
use Rattle.pw_http.proofs.replies.Status.number.Goals as goal

pub returns-in-InsufficientStorage : goal.returns-in-InsufficientStorage
returns-in-InsufficientStorage c = search rules
