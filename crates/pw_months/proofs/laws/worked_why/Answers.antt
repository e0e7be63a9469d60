use Rattle.pw_months.proofs.WorkedRows.{worked-why}
use Rattle.pw_months.proofs.laws.worked_why.Goals as goal

pub returns : goal.returns
returns c = worked-why
