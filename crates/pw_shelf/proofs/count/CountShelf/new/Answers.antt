use Rattle.pw_shelf.proofs.count.CountShelf.new.Goals as goal

pub returns-clause-made : goal.returns-clause-made
returns-clause-made g c = assumption

pub returns-clause-plan : goal.returns-clause-plan
returns-clause-plan g c = assumption
