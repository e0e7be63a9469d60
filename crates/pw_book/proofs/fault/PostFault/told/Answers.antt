use Rattle.std.proofs.Common.{rules}
use Rattle.pw_book.proofs.fault.PostFault.told.Goals as goal

pub returns-in-Memory-clause-name : goal.returns-in-Memory-clause-name
returns-in-Memory-clause-name c = search rules depth 0 fits 100

pub returns-in-Full-clause-number : goal.returns-in-Full-clause-number
returns-in-Full-clause-number c = search rules depth 0 fits 100
