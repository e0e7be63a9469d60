use Rattle.pw_flow.proofs.Kept.{piece-of_one_kind}
use Rattle.pw_flow.proofs.laws.piece_of_one_kind.Goals as goal

pub returns : goal.returns
returns c = piece-of_one_kind
