use Rattle.std.proofs.Common.{refl}
use Rattle.std.specs.BTreeMap.{get}
use Rattle.std.specs.Ordering.{nat_cmp}
use Rattle.pw_serve.specs.inner.Now.{Onward}
use Rattle.pw_serve.proofs.Nows.{onward-kept, onward-settled}
use Rattle.pw_serve.proofs.Turns.{stays-same}
use Rattle.pw_serve.proofs.peers.Peers.knock.Goals.{else-len-lt-MOST_CONNECTIONS, then-len-lt-MOST_CONNECTIONS}
use Rattle.pw_serve.proofs.peers.Peers.knock.Goals as goal

pub returns-else-has_place-clause-onward : goal.returns-else-has_place-clause-onward
returns-else-has_place-clause-onward g c =
    let p = c.if-len-lt-MOST_CONNECTIONS in
    let made : Onward g.S.Service.answers c.args.service.now (g.C.Connections.connection c.args.connections.now) (get nat_cmp c.args.self.now.rows) c.args.self.now.next c.args.service.now (g.C.Connections.connection p.connections) (get nat_cmp p.self.rows) p.self.next = elim p.branch [
      | then-len-lt-MOST_CONNECTIONS w ↦ rw (w.self-is, w.connections-is) (onward-kept g.S.Service.answers _ _ _ _ _ _ (λ j. stays-same _) (λ j. refl))
      | else-len-lt-MOST_CONNECTIONS w ↦ rw (w.self-is, w.connections-is) w.displace-has_place.ensures.onward
    ] in
    onward-settled g.S.Service.answers _ _ _ _ _ _ _ _ _ _ _ made c.turn_away.ensures.stay (λ j. refl) refl
