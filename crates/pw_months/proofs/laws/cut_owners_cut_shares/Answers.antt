use Rattle.pw_months.proofs.Windows.{cut-owners}
use Rattle.pw_months.proofs.laws.cut_owners_cut_shares.Goals as goal

pub returns : goal.returns
returns c = cut-owners
