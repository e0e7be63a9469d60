use Rattle.pw_shelf.proofs.calls.MemoryShelfShelf.holds.Goals as goal

pub returns-clause-held : goal.returns-clause-held
returns-clause-held c = assumption
