use Rattle.pw_store.proofs.Adopted.{adopted_holds}
use Rattle.pw_store.proofs.laws.adopted_stores_hold_the_same.Goals as goal

pub returns : goal.returns
returns c = adopted_holds
