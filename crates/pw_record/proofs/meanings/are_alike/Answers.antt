use Rattle.std.proofs.Common.{rules}
use Rattle.pw_record.proofs.meanings.are_alike.Goals as goal

pub returns-in-Identifier : goal.returns-in-Identifier
returns-in-Identifier c = search rules depth 0 fits 100
