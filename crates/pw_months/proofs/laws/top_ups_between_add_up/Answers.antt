use Rattle.pw_months.proofs.ListedTopUps.{top-ups_between}
use Rattle.pw_months.proofs.laws.top_ups_between_add_up.Goals as goal

pub returns : goal.returns
returns c = top-ups_between
