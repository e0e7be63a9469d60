use Rattle.std.proofs.Common.{rules}
use Rattle.pw_tariff.proofs.walks.MeterIdsIterator.next.Goals as goal

pub returns-clause-steps : goal.returns-clause-steps
returns-clause-steps c = search rules depth 0 fits 100
