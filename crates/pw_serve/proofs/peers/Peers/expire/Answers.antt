use Rattle.std.proofs.Common.{sym, ◌∙◌}
use Rattle.pw_serve.proofs.Nows.{onward-ended, onward-settled}
use Rattle.pw_serve.proofs.Rows.{row_at, rows_are}
use Rattle.pw_serve.proofs.Turns.{leaving-expired}
use Rattle.pw_serve.proofs.peers.Peers.expire.Goals as goal

pub returns-then-contains_key-clause-onward : goal.returns-then-contains_key-clause-onward
returns-then-contains_key-clause-onward g c =
    let row = row_at _ (sym c.contains_key.ensures ∙ c.if-contains_key.true) in
    onward-settled g.S.Service.answers _ _ _ _ _ _ _ _ _ _ _
    (onward-ended g.S.Service.answers _ _ _ _ _ _ _ _ row.0 row.1 (λ first own p. leaving-expired first _ own row.0 c.requires p) c.end.ensures.one c.end.ensures.others c.end.ensures.rows)
    c.pass_place_on.ensures.stay (rows_are _ _ c.pass_place_on.ensures.rows) (c.pass_place_on.ensures.next ∙ c.end.ensures.next)
