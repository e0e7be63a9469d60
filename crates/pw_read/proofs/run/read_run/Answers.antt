use Rattle.pw_read.proofs.Runs.{run_told, run_cut}
use Rattle.pw_read.proofs.run.read_run.Goals as goal

pub returns-in-Err-clause-run : goal.returns-in-Err-clause-run
returns-in-Err-clause-run g c = λ body known.
    run_told c.args.clock body c.in-Err.failure _ _ _ _ (c.in-Err.ensures body known) c.tell.ensures

pub returns-clause-run : goal.returns-clause-run
returns-clause-run g c = λ body known.
    let shown = c.in-Ok.ensures body known in
    run_cut c.args.clock body c.in-Ok.text.items _ _ _ _ _ shown.0 shown.1
    (rw c.as_slice.ensures.value at c.in-Err-write.ensures) c.tell-in-Err-write.ensures
