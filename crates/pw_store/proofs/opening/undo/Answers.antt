use Rattle.std.proofs.Common.{rules}
use Rattle.pw_store.proofs.opening.undo.Goals as goal

pub returns-clause-kept : goal.returns-clause-kept
returns-clause-kept g c = search rules depth 3 fits 300
