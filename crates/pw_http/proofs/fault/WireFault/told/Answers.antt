use Rattle.std.proofs.Common.{rules}
use Rattle.pw_http.proofs.fault.WireFault.told.Goals as goal

pub returns-in-Memory-clause-name : goal.returns-in-Memory-clause-name
returns-in-Memory-clause-name c = search rules

pub returns-in-TooManyTurns-clause-number : goal.returns-in-TooManyTurns-clause-number
returns-in-TooManyTurns-clause-number c = search rules
