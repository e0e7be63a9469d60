use Rattle.std.proofs.Common.{rules}
use Rattle.pw_store.proofs.laws.store_stays_as_it_was_opened.Goals as goal

pub returns : goal.returns
returns g c = search rules
