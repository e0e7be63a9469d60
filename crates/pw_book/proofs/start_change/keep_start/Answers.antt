use Rattle.std.proofs.Common.{rules}
use Rattle.pw_book.proofs.start_change.keep_start.Goals as goal

pub returns-in-None-clause-kept_start : goal.returns-in-None-clause-kept_start
returns-in-None-clause-kept_start g c = search rules depth 0 fits 100
