use Rattle.std.proofs.Common.{rules}
use Rattle.pw_store.proofs.records.has_named.Goals as goal

pub returns-clause-found : goal.returns-clause-found
returns-clause-found g c = search rules depth 0 fits 100
