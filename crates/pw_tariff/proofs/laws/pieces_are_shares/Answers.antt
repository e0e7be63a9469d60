use Rattle.pw_tariff.proofs.Gathered.{pieces-are_shares}
use Rattle.pw_tariff.proofs.laws.pieces_are_shares.Goals as goal

pub returns : goal.returns
returns c = pieces-are_shares
