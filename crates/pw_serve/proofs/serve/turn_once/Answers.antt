use Rattle.pw_serve.specs.declared.connections.Event.TheVariants.{Closing, Expired, Knocked, Quiet, Ready}
use Rattle.pw_serve.proofs.Nows.{onward-then, onward-told}
use Rattle.pw_serve.proofs.serve.turn_once.Goals as goal

pub returns-in-Knocked-clause-onward : goal.returns-in-Knocked-clause-onward
returns-in-Knocked-clause-onward g c = onward-then g.S.Service.answers _ _ _ _ _ _ _ _ _ _ _ _ (onward-told g.S.Service.answers _ _ _ _ _ Knocked c.in-Knocked.ensures.told) c.knock.ensures.onward

pub returns-in-Ready-clause-onward : goal.returns-in-Ready-clause-onward
returns-in-Ready-clause-onward g c = onward-then g.S.Service.answers _ _ _ _ _ _ _ _ _ _ _ _ (onward-told g.S.Service.answers _ _ _ _ _ (Ready c.in-Ready.number) c.in-Ready.ensures.told) c.visit.ensures.onward

pub returns-in-Expired-clause-onward : goal.returns-in-Expired-clause-onward
returns-in-Expired-clause-onward g c = onward-then g.S.Service.answers _ _ _ _ _ _ _ _ _ _ _ _ (onward-told g.S.Service.answers _ _ _ _ _ (Expired c.in-Expired.number) c.in-Expired.ensures.told) c.expire.ensures.onward

pub returns-in-Quiet-clause-onward : goal.returns-in-Quiet-clause-onward
returns-in-Quiet-clause-onward g c = onward-told g.S.Service.answers _ _ _ _ _ Quiet c.in-Quiet.ensures.told

pub returns-in-Closing-clause-onward : goal.returns-in-Closing-clause-onward
returns-in-Closing-clause-onward g c = onward-told g.S.Service.answers _ _ _ _ _ Closing c.in-Closing.ensures.told
