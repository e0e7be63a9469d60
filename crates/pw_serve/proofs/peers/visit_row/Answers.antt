use Rattle.std.proofs.Common.{inl, rules, sym}
use Rattle.pw_serve.proofs.Rows.{set_by}
use Rattle.pw_serve.proofs.peers.visit_row.Goals as goal

pub returns-in-Some-clause-visit : goal.returns-in-Some-clause-visit
returns-in-Some-clause-visit g c =
    let u = (c.get_mut.follows.holds c.turn.new.peer).3 (search rules) in
    inl (c.in-Some.peer.now, c.turn.new.peer, record { was = sym c.in-Some.ensures.value; set = set_by c.args.number c.args.rows.now (c.get_mut.follows.lender c.turn.new.peer) _ u; leads = c.turn.ensures.leads; stay = c.turn.ensures.others })
