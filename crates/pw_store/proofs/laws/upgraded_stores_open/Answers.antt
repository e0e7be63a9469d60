use Rattle.pw_store.proofs.Upgraded.{upgraded_opens}
use Rattle.pw_store.proofs.laws.upgraded_stores_open.Goals as goal

pub returns : goal.returns
returns c = upgraded_opens
