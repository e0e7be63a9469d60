use Rattle.pw_model.proofs.Repeated.{repeated-period}
use Rattle.pw_model.proofs.laws.repeated_period_changes_nothing.Goals as goal

pub returns : goal.returns
returns c = repeated-period
