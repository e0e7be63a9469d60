use Rattle.std.specs.Prelude.{◌≤◌, ◌+◌, ◌*◌}
use Rattle.std.specs.BTreeMap.{get}
use Rattle.std.specs.Ordering.{nat_cmp}
use Rattle.pw_serve.specs.inner.Now.{HaveLooked, Now}
use Rattle.pw_serve.proofs.serve.serve_many.Given as goal

abbrev pub invariant-loop : goal.invariant-loop
invariant-loop g l = record {
  now : Now g.S.Service.answers l.fn.service (g.C.Connections.connection l.fn.connections) (g.C.Connections.connection l.connections) l.service (get nat_cmp l.peers.rows) l.peers.next;
  looked : HaveLooked g.S.Service.waits (get nat_cmp l.peers.rows);
  bounded : g.S.Service.calls l.service + g.C.Connections.moves l.connections ≤ g.S.Service.calls l.fn.service + g.C.Connections.moves l.fn.connections + 16 * l.counter;
}
