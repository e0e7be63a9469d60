use Rattle.std.proofs.Common.{rules}
use Rattle.pw_http.proofs.requests.is_close.Goals as goal

pub returns-then-is_name : goal.returns-then-is_name
returns-then-is_name c = search rules
