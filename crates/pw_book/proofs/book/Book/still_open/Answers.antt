use Rattle.pw_book.proofs.book.Book.still_open.Goals as goal

pub returns-else-self : goal.returns-else-self
returns-else-self g c = assumption

pub returns-then-self : goal.returns-then-self
returns-then-self g c = assumption
