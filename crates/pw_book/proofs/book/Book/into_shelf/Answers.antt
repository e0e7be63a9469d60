use Rattle.std.proofs.Common.{rules}
use Rattle.pw_book.proofs.book.Book.into_shelf.Goals as goal

pub returns : goal.returns
returns g c = search rules
