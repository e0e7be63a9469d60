use Rattle.std.specs.Prelude.{◌≡◌, ◌≤◌}
use Rattle.pw_serve.specs.Connections.{AllStay}
use Rattle.pw_serve.proofs.peers.Peers.pass_place_on.Given as goal

abbrev pub invariant-loop : goal.invariant-loop
invariant-loop g l = record {
  rows : l.self.rows ≡ l.fn.self.rows;
  next : l.self.next ≡ l.fn.self.next;
  stay : AllStay (g.C.Connections.connection l.fn.connections) (g.C.Connections.connection l.connections);
  bounded : g.C.Connections.moves l.connections ≤ g.C.Connections.moves l.fn.connections;
}
