use Rattle.std.proofs.Common.{rules}
use Rattle.pw_book.proofs.fault.PostFaultFromShelfFault.from.Goals as goal

pub returns-in-Memory : goal.returns-in-Memory
returns-in-Memory c = search rules depth 0 fits 100
