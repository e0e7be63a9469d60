use Rattle.std.proofs.Common.{rules}
use Rattle.pw_serve.proofs.peer.Peer.take_front.Goals as goal

pub returns-else-n-len-clause-rest : goal.returns-else-n-len-clause-rest
returns-else-n-len-clause-rest c = search rules depth 0 fits 100
