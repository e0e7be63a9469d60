use Rattle.std.proofs.Common.{rules}
use Rattle.pw_record.proofs.frames.telegrams_in.Goals as goal

pub returns-clause-entries : goal.returns-clause-entries
returns-clause-entries c = search rules depth 0 fits 100
