use Rattle.pw_book.proofs.book.Book.balance.Goals as goal

pub returns-in_err-nano-clause-cost : goal.returns-in_err-nano-clause-cost
returns-in_err-nano-clause-cost g c = assumption
