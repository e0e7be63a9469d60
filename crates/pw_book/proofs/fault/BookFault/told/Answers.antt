use Rattle.std.proofs.Common.{rules}
use Rattle.pw_book.proofs.fault.BookFault.told.Goals as goal

pub returns-in-Reopen-clause-name : goal.returns-in-Reopen-clause-name
returns-in-Reopen-clause-name c = search rules depth 0 fits 100

pub returns-in-Device-clause-number : goal.returns-in-Device-clause-number
returns-in-Device-clause-number c = search rules depth 0 fits 100
