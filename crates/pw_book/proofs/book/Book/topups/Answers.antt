use Rattle.std.proofs.Common.{rules}
use Rattle.pw_book.proofs.book.Book.topups.Goals as goal

pub returns-clause-topups : goal.returns-clause-topups
returns-clause-topups g c = search rules depth 0 fits 100
