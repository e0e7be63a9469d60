use Rattle.std.proofs.Common.{rules}
use Rattle.pw_found.proofs.verdict.found_by_sizes.Goals as goal

pub returns-then-log : goal.returns-then-log
returns-then-log c = search rules depth 0 fits 100
