use Rattle.std.proofs.Common.{rules}
use Rattle.pw_book.proofs.book.Book.new.Goals as goal

pub returns-clause-limit : goal.returns-clause-limit
returns-clause-limit g c = assumption

pub invariant_of-result : goal.invariant_of-result
invariant_of-result g c = search rules depth 0 fits 100

pub returns-clause-open_yet : goal.returns-clause-open_yet
returns-clause-open_yet g c = assumption

pub returns-clause-shelf : goal.returns-clause-shelf
returns-clause-shelf g c = assumption
