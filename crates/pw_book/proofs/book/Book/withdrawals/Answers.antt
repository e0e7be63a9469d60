use Rattle.std.proofs.Common.{rules}
use Rattle.pw_book.proofs.book.Book.withdrawals.Goals as goal

pub returns-clause-withdrawals : goal.returns-clause-withdrawals
returns-clause-withdrawals g c = search rules depth 0 fits 100
