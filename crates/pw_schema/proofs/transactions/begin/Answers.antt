use Rattle.std.proofs.Common.{Ok}
use Rattle.sqlite.specs.Held.{state}
use Rattle.pw_schema.proofs.ThreeTexts.{begin_text, begins, begin_leaves, failed_so, done_so}
use Rattle.pw_schema.proofs.transactions.begin.Goals as goal

pub returns-clause-begun : goal.returns-clause-begun
returns-clause-begun g c clean = begins (state g.S.Store c.args.conn.now) (state g.S.Store c.execute.new.self) (Ok _) (c.in_ok-execute.ensures.runs clean)

pub returns-in_err-execute-clause-writes : goal.returns-in_err-execute-clause-writes
returns-in_err-execute-clause-writes g c = failed_so c.from_residual.result _ _ begin_text _ c.in_err-execute.ensures.runs (begin_leaves _ (state g.S.Store c.execute.new.self) c.execute.ensures.survives)

pub returns-clause-writes : goal.returns-clause-writes
returns-clause-writes g c = done_so _ _ _ (begin_leaves _ (state g.S.Store c.execute.new.self) c.execute.ensures.survives)
