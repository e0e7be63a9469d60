use Rattle.std.proofs.Common.{refl}
use Rattle.pw_serve.proofs.Nows.{onward-ended, onward-settled}
use Rattle.pw_serve.proofs.Turns.{leaving-idle, stays-same}
use Rattle.pw_serve.proofs.peers.Peers.displace.Goals as goal

pub returns-clause-onward : goal.returns-clause-onward
returns-clause-onward g c =
    let row = c.is_idle_at.ensures c.if-not-is_idle_at.false in
    onward-settled g.S.Service.answers _ _ _ _ _ _ _ _ _ _ _
    (onward-ended g.S.Service.answers _ _ _ _ _ _ _ _ row.0 row.1 (λ first own p. leaving-idle first _ own row.0 p row.2) c.end.ensures.one c.end.ensures.others c.end.ensures.rows)
    (λ j. stays-same _) (λ j. refl) c.end.ensures.next
