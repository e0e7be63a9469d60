use Rattle.std.proofs.Common.{rules}
use Rattle.pw_store.proofs.questions.read_amount.Goals as goal

pub returns-in-Some-clause-told : goal.returns-in-Some-clause-told
returns-in-Some-clause-told c = search rules depth 0 fits 100
