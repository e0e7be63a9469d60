use Rattle.std.proofs.Common.{Ok}
use Rattle.sqlite.specs.Held.{state}
use Rattle.pw_schema.proofs.ThreeTexts.{rollback_text, rolls_back, rollback_leaves, failed_so, done_so}
use Rattle.pw_schema.proofs.transactions.roll_back.Goals as goal

pub returns-clause-undone : goal.returns-clause-undone
returns-clause-undone g c clean = rolls_back (state g.S.Store c.args.conn.now) (state g.S.Store c.execute.new.self) (Ok _) (c.in_ok-execute.ensures.runs clean)

pub returns-in_err-execute-clause-writes : goal.returns-in_err-execute-clause-writes
returns-in_err-execute-clause-writes g c = failed_so c.from_residual.result _ _ rollback_text _ c.in_err-execute.ensures.runs (rollback_leaves _ (state g.S.Store c.execute.new.self) c.execute.ensures.survives)

pub returns-clause-writes : goal.returns-clause-writes
returns-clause-writes g c = done_so _ _ _ (rollback_leaves _ (state g.S.Store c.execute.new.self) c.execute.ensures.survives)
