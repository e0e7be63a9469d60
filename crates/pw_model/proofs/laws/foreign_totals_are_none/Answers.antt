use Rattle.pw_model.proofs.Foreign.{foreign-totals_are_none}
use Rattle.pw_model.proofs.laws.foreign_totals_are_none.Goals as goal

pub returns : goal.returns
returns c = foreign-totals_are_none
