use Rattle.pw_book.proofs.shelf_calls.withdrawals_held.Goals as goal

pub returns-clause-rows : goal.returns-clause-rows
returns-clause-rows g c = assumption
