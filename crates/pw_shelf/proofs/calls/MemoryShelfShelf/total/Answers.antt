use Rattle.pw_shelf.proofs.calls.MemoryShelfShelf.total.Goals as goal

pub returns-clause-amount : goal.returns-clause-amount
returns-clause-amount c = assumption
