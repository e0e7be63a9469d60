use Rattle.std.proofs.Common.{rules}
use Rattle.pw_tariff.proofs.spread.piece_at.Goals as goal

pub returns-clause-piece : goal.returns-clause-piece
returns-clause-piece c = search rules depth 3 fits 300
