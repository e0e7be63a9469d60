use Rattle.std.proofs.Common.{sym}
use Rattle.pw_serve.proofs.peers.is_idle_at.Goals as goal

pub returns-in-Some : goal.returns-in-Some
returns-in-Some c = λ e. (c.in-Some.peer.now, sym c.in-Some.ensures.value, c.is_idle.ensures e)
