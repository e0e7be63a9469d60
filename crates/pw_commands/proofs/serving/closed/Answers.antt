use Rattle.std.proofs.Common.{ap, rules}
use Rattle.pw_commands.specs.Faults.{fault_status}
use Rattle.pw_commands.proofs.Told.{told-three}
use Rattle.pw_commands.proofs.serving.closed.Goals as goal

pub returns-in-Err : goal.returns-in-Err
returns-in-Err g c = told-three c.in-Err.fault _ _ _ (ap fault_status c.in-Err.ensures) c.tell.ensures

pub returns-in_default : goal.returns-in_default
returns-in_default g c = search rules
