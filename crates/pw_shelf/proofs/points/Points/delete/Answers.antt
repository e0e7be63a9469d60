use Rattle.std.proofs.Common.{None}
use Rattle.std.proofs.lemmas.Result.{on_ok_weaker}
use Rattle.pw_shelf.proofs.RowChanges.{points-change, points-same}
use Rattle.pw_shelf.proofs.points.Points.delete.Goals as goal

pub returns-clause-deleted : goal.returns-clause-deleted
returns-clause-deleted c = on_ok_weaker c.delete.result
    (points-change c.args.self.now.table c.delete.new.self c.args.meter c.args.register c.args.instant None) c.delete.ensures.deleted

pub returns-clause-begin : goal.returns-clause-begin
returns-clause-begin c = points-same _ _ c.delete.ensures.begin
