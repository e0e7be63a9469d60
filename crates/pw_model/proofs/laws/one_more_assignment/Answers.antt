use Rattle.pw_model.proofs.Assignments.{one-more_assignment}
use Rattle.pw_model.proofs.laws.one_more_assignment.Goals as goal

pub returns : goal.returns
returns c = one-more_assignment
