use Rattle.std.proofs.Common.{arith}
use Rattle.pw_serve.proofs.Nows.{now-new, served}
use Rattle.pw_serve.proofs.Rows.{looked-none}
use Rattle.pw_serve.proofs.serve.serve_many.Goals as goal

pub loop-init : goal.loop-init
loop-init g c = record { now = now-new g.S.Service.answers _ _ _ _ c.new-peers.ensures.rows; looked = looked-none g.S.Service.waits _ c.new-peers.ensures.rows; bounded = omega arith }

pub returns-then-turn_once-clause-served : goal.returns-then-turn_once-clause-served
returns-then-turn_once-clause-served g c = served g.S.Service.answers _ _ _ _ _ _ (c.turn_once.ensures.onward _ _ c.loop.invariant.now)

pub returns-clause-served : goal.returns-clause-served
returns-clause-served g c = served g.S.Service.answers _ _ _ _ _ _ c.loop.invariant.now
