use Rattle.std.proofs.Common.{rules}
use Rattle.pw_store.proofs.judging.read_office.Goals as goal

pub returns-in-Err-clause-looks : goal.returns-in-Err-clause-looks
returns-in-Err-clause-looks g c = search rules depth 0 fits 100
