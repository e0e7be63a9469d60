use Rattle.pw_shelf.proofs.calls.MemoryShelfShelf.starts_of.Goals as goal

pub returns-clause-rows : goal.returns-clause-rows
returns-clause-rows c = assumption
