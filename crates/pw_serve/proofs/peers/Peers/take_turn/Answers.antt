use Rattle.std.proofs.Common.{refl}
use Rattle.pw_serve.proofs.Nows.{onward-over, onward-settled, onward-turn, staying}
use Rattle.pw_serve.proofs.Rows.{rows_are}
use Rattle.pw_serve.proofs.Turns.{stays-same}
use Rattle.pw_serve.proofs.peers.Peers.take_turn.Goals as goal

pub returns-in-Goes-clause-onward : goal.returns-in-Goes-clause-onward
returns-in-Goes-clause-onward g c = onward-turn g.S.Service.answers _ _ _ _ _ _ _ _ _ _ c.visit_row-next.result (staying _ c.in-Goes.is) c.visit_row-next.ensures.visit c.again.ensures.stay (λ j. refl)

pub returns-in-Waits-clause-onward : goal.returns-in-Waits-clause-onward
returns-in-Waits-clause-onward g c = onward-turn g.S.Service.answers _ _ _ _ _ _ _ _ _ _ _ tt c.in-Waits.ensures.visit (λ j. stays-same _) (λ j. refl)

pub returns-in-Held-clause-onward : goal.returns-in-Held-clause-onward
returns-in-Held-clause-onward g c = onward-settled g.S.Service.answers _ _ _ _ _ _ _ _ _ _ _
    (onward-turn g.S.Service.answers _ _ _ _ _ _ _ _ _ _ _ tt c.in-Held.ensures.visit c.hold.ensures.stay (rows_are _ _ c.hold.ensures.rows))
    (λ j. stays-same _) (λ j. refl) c.hold.ensures.next

pub returns-in-Ends-clause-onward : goal.returns-in-Ends-clause-onward
returns-in-Ends-clause-onward g c = onward-settled g.S.Service.answers _ _ _ _ _ _ _ _ _ _ _
    (onward-over g.S.Service.answers _ _ _ _ _ _ _ _ _ _ c.in-Ends.why c.in-Ends.ensures.visit c.end.ensures.one c.end.ensures.others c.end.ensures.rows)
    (λ j. stays-same _) (λ j. refl) c.end.ensures.next
