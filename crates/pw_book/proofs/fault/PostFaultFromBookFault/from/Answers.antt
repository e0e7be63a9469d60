use Rattle.std.proofs.Common.{rules}
use Rattle.pw_book.proofs.fault.PostFaultFromBookFault.from.Goals as goal

pub returns-in-Reopen : goal.returns-in-Reopen
returns-in-Reopen c = search rules depth 0 fits 100
