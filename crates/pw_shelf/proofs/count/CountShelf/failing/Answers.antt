use Rattle.std.proofs.Common.{rules}
use Rattle.pw_shelf.proofs.count.CountShelf.failing.Goals as goal

pub returns-clause-state : goal.returns-clause-state
returns-clause-state g c = search rules depth 0 fits 100

pub returns-clause-made : goal.returns-clause-made
returns-clause-made g c = assumption

pub returns-clause-plan : goal.returns-clause-plan
returns-clause-plan g c = assumption
