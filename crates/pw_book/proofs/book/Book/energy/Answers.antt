use Rattle.std.proofs.Common.{rules}
use Rattle.pw_book.proofs.book.Book.energy.Goals as goal

pub returns-in_err-wh-clause-cost : goal.returns-in_err-wh-clause-cost
returns-in_err-wh-clause-cost g c = search rules
