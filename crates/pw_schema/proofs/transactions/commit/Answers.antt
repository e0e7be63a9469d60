use Rattle.std.proofs.Common.{Ok, Err}
use Rattle.sqlite.specs.Held.{state}
use Rattle.pw_schema.proofs.ThreeTexts.{commit_text, commits, commit_alone, commit_stays, either_fails, commit_leaves, on_error}
use Rattle.pw_schema.proofs.transactions.commit.Goals as goal

pub returns-clause-done : goal.returns-clause-done
returns-clause-done g c clean = commits (state g.S.Store c.args.conn.now) (state g.S.Store c.execute.new.self) (Ok _) (c.in_ok-execute.ensures.runs clean)

pub returns-clause-alone : goal.returns-clause-alone
returns-clause-alone g c clean =
    commit_alone (state g.S.Store c.args.conn.now) (state g.S.Store c.execute.new.self) (Ok 0)
    (commits (state g.S.Store c.args.conn.now) (state g.S.Store c.execute.new.self) (Ok _) (c.in_ok-execute.ensures.runs clean))
    (λ db live may. g.met.S.Store.settled c.execute.new.self.store db live may)

pub returns-clause-stays : goal.returns-clause-stays
returns-clause-stays g c clean =
    commit_stays (state g.S.Store c.args.conn.now) (state g.S.Store c.execute.new.self) (Ok 0)
    (commits (state g.S.Store c.args.conn.now) (state g.S.Store c.execute.new.self) (Ok _) (c.in_ok-execute.ensures.runs clean))
    (λ live. g.met.S.Store.stays c.execute.new.self.store live)

pub returns-in_err-execute-clause-failed : goal.returns-in_err-execute-clause-failed
returns-in_err-execute-clause-failed g c clean = on_error c.from_residual.result (either_fails (state g.S.Store c.args.conn.now) (state g.S.Store c.execute.new.self) commit_text _ (Err _) (c.in_err-execute.ensures.runs clean))

pub returns-in_err-execute-clause-crash : goal.returns-in_err-execute-clause-crash
returns-in_err-execute-clause-crash g c = commit_leaves (state g.S.Store c.args.conn.now) (state g.S.Store c.execute.new.self) c.execute.ensures.survives

pub returns-clause-crash : goal.returns-clause-crash
returns-clause-crash g c = commit_leaves (state g.S.Store c.args.conn.now) (state g.S.Store c.execute.new.self) c.execute.ensures.survives
