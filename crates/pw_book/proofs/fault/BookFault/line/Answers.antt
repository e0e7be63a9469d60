use Rattle.std.proofs.Common.{rules}
use Rattle.pw_book.proofs.fault.BookFault.line.Goals as goal

pub returns-clause-text : goal.returns-clause-text
returns-clause-text c = search rules depth 0 fits 100
