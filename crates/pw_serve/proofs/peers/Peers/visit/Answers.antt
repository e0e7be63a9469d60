use Rattle.pw_serve.proofs.Nows.{onward-settled}
use Rattle.pw_serve.proofs.Rows.{rows_are}
use Rattle.pw_serve.proofs.peers.Peers.visit.Goals as goal

pub returns-clause-onward : goal.returns-clause-onward
returns-clause-onward g c = onward-settled g.S.Service.answers _ _ _ _ _ _ _ _ _ _ _ c.take_turn.ensures.onward c.pass_place_on.ensures.stay (rows_are _ _ c.pass_place_on.ensures.rows) c.pass_place_on.ensures.next
