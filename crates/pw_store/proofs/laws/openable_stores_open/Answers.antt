use Rattle.pw_store.proofs.Openable.{opens}
use Rattle.pw_store.proofs.laws.openable_stores_open.Goals as goal

pub returns : goal.returns
returns c = opens
