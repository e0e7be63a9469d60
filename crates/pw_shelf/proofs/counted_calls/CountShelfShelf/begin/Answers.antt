use Rattle.pw_shelf.proofs.counted_calls.CountShelfShelf.begin.Goals as goal

pub returns-clause-unbegun : goal.returns-clause-unbegun
returns-clause-unbegun g c = assumption

pub returns-clause-store : goal.returns-clause-store
returns-clause-store g c = assumption
