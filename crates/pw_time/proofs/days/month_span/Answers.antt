use Rattle.std.proofs.Common.{rules}
use Rattle.pw_time.proofs.days.month_span.Goals as goal

pub returns-in_err-begin-clause-there : goal.returns-in_err-begin-clause-there
returns-in_err-begin-clause-there c = search rules depth 3 fits 300
