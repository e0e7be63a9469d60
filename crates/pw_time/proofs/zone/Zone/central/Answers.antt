use Rattle.pw_time.proofs.TableFacts.{table_is}
use Rattle.pw_time.proofs.zone.Zone.central.Goals as goal

pub invariant_of-result : goal.invariant_of-result
invariant_of-result c = table_is

pub returns : goal.returns
returns c = table_is
