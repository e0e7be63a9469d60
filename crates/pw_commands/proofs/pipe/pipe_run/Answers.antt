use Rattle.std.proofs.Common.{inl, inr, refl, rules}
use Rattle.pw_commands.specs.declared.fault.Fault.TheVariants as fault
use Rattle.pw_commands.proofs.Told.{stopped}
use Rattle.pw_commands.proofs.pipe.pipe_run.Goals as goal

pub returns-in-Err-clause-stopped : goal.returns-in-Err-clause-stopped
returns-in-Err-clause-stopped g c = λ e.
    stopped _ c.args.office.now _ _ _ _ _ _ (inl refl) (fault.Office c.in-Err.fault) _ c.in-Err.ensures c.tell.ensures

pub returns-in-Err-pipe_in-clause-stopped : goal.returns-in-Err-pipe_in-clause-stopped
returns-in-Err-pipe_in-clause-stopped g c = λ e.
    stopped _ c.args.office.now _ _ _ _ _ _ (inr (c.in-Err-pipe_in.ensures c.args.office.now c.in-Ok.ensures))
    (fault.Wire c.in-Err-pipe_in.fault) _ tt c.tell-in-Err-pipe_in.ensures

pub returns-in-Err-clause-refused : goal.returns-in-Err-clause-refused
returns-in-Err-clause-refused g c = search rules

pub returns-in-Err-pipe_in-clause-status : goal.returns-in-Err-pipe_in-clause-status
returns-in-Err-pipe_in-clause-status g c = search rules

pub returns-in-Err-clause-piped : goal.returns-in-Err-clause-piped
returns-in-Err-clause-piped g c = search rules
