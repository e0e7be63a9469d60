use Rattle.pw_shelf.proofs.calls.MemoryShelfShelf.assignments_of.Goals as goal

pub returns-clause-rows : goal.returns-clause-rows
returns-clause-rows c = assumption

pub returns-clause-asked : goal.returns-clause-asked
returns-clause-asked c = assumption
