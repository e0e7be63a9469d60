use Rattle.std.proofs.Common.{rules}
use Rattle.pw_store.proofs.fault.device_fault.Goals as goal

pub returns-clause-counted : goal.returns-clause-counted
returns-clause-counted c = search rules depth 0 fits 100
