use Rattle.pw_months.proofs.Told.{bill-told}
use Rattle.pw_months.proofs.laws.bill_goes_by_what_is_told.Goals as goal

pub returns : goal.returns
returns c = bill-told
