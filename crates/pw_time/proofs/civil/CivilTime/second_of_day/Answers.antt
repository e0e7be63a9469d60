use Rattle.std.proofs.Common.{rules}
use Rattle.pw_time.proofs.civil.CivilTime.second_of_day.Goals as goal

pub returns-then-self-lt60-2-clause-there : goal.returns-then-self-lt60-2-clause-there
returns-then-self-lt60-2-clause-there c = search rules depth 0 fits 100
