use Rattle.pw_months.proofs.Windows.{named-days}
use Rattle.pw_months.proofs.laws.named_days_share.Goals as goal

pub returns : goal.returns
returns c = named-days
