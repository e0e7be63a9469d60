use Rattle.std.proofs.Common.{rules}
use Rattle.pw_model.proofs.reference.Reference.bytes.Goals as goal

pub returns-clause-bytes : goal.returns-clause-bytes
returns-clause-bytes c = search rules depth 0 fits 100
