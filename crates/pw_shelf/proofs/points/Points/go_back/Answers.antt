use Rattle.pw_shelf.proofs.RowChanges.{points-same}
use Rattle.pw_shelf.proofs.points.Points.go_back.Goals as goal

pub returns-clause-back : goal.returns-clause-back
returns-clause-back c = points-same _ _ c.go_back.ensures.went

pub returns-clause-begin : goal.returns-clause-begin
returns-clause-begin c = points-same _ _ c.go_back.ensures.begin
