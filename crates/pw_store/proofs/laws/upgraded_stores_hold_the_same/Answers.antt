use Rattle.pw_store.proofs.Upgraded.{upgraded_holds}
use Rattle.pw_store.proofs.laws.upgraded_stores_hold_the_same.Goals as goal

pub returns : goal.returns
returns c = upgraded_holds
