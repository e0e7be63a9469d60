use Rattle.std.proofs.Common.{rules}
use Rattle.pw_book.proofs.book.Book.energy_in.Goals as goal

pub returns-clause-energy : goal.returns-clause-energy
returns-clause-energy g c = search rules depth 0 fits 100
