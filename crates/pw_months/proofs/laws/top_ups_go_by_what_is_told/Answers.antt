use Rattle.pw_months.proofs.ListedTopUps.{top-ups_told}
use Rattle.pw_months.proofs.laws.top_ups_go_by_what_is_told.Goals as goal

pub returns : goal.returns
returns c = top-ups_told
