use Rattle.pw_store.proofs.Adopted.{adopted_opens}
use Rattle.pw_store.proofs.laws.adopted_stores_open.Goals as goal

pub returns : goal.returns
returns c = adopted_opens
