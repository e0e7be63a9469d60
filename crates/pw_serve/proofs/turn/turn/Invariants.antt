use Rattle.std.specs.Prelude.{◌≤◌, ◌+◌}
use Rattle.pw_serve.specs.Connections.{OthersStay}
use Rattle.pw_serve.specs.declared.turn.Next.TheVariants.{Goes}
use Rattle.pw_serve.specs.inner.Peers.{HasLooked}
use Rattle.pw_serve.specs.inner.Turns.{IsAfter, Leads}
use Rattle.pw_serve.proofs.turn.turn.Given as goal

-- as far as the turn has come
abbrev pub invariant-loop : goal.invariant-loop
invariant-loop g l = record {
  leads : Leads g.S.Service.answers l.fn.number l.fn.service (g.C.Connections.connection l.fn.connections l.fn.number) l.fn.peer l.service (IsAfter Goes (g.C.Connections.connection l.connections l.fn.number) l.peer);
  looked : HasLooked g.S.Service.waits l.fn.peer → HasLooked g.S.Service.waits l.peer;
  bounded : g.S.Service.calls l.service + g.C.Connections.moves l.connections ≤ g.S.Service.calls l.fn.service + g.C.Connections.moves l.fn.connections + l.counter;
  others : OthersStay l.fn.number (g.C.Connections.connection l.fn.connections) (g.C.Connections.connection l.connections);
}
