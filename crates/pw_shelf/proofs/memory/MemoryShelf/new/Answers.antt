use Rattle.pw_shelf.proofs.memory.MemoryShelf.new.Goals as goal

pub returns-clause-content : goal.returns-clause-content
returns-clause-content c = assumption

pub returns-clause-begun : goal.returns-clause-begun
returns-clause-begun c = assumption
