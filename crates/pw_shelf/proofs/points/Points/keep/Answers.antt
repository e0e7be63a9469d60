use Rattle.pw_shelf.proofs.RowChanges.{points-same}
use Rattle.pw_shelf.proofs.points.Points.keep.Goals as goal

pub returns-clause-same : goal.returns-clause-same
returns-clause-same c = points-same _ _ c.keep.ensures.same

pub returns-clause-begin : goal.returns-clause-begin
returns-clause-begin c = points-same _ _ c.keep.ensures.begin
