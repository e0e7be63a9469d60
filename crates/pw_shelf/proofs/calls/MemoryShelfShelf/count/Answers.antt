use Rattle.pw_shelf.proofs.calls.MemoryShelfShelf.count.Goals as goal

pub returns-clause-number : goal.returns-clause-number
returns-clause-number c = assumption

pub returns-clause-asked : goal.returns-clause-asked
returns-clause-asked c = assumption
