use Rattle.pw_tariff.proofs.OneCut.{one-cut}
use Rattle.pw_tariff.proofs.laws.pieces_are_unique.Goals as goal

pub returns : goal.returns
returns c = one-cut
