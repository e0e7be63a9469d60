use Rattle.std.proofs.Common.{Some}
use Rattle.std.proofs.lemmas.Result.{on_ok_weaker}
use Rattle.pw_shelf.proofs.RowChanges.{points-change, points-same}
use Rattle.pw_shelf.proofs.points.Points.put.Goals as goal

pub returns-clause-put : goal.returns-clause-put
returns-clause-put c = on_ok_weaker c.put.result
    (points-change c.args.self.now.table c.put.new.self c.args.meter c.args.register c.args.instant (Some c.args.wh)) c.put.ensures.put

pub returns-clause-begin : goal.returns-clause-begin
returns-clause-begin c = points-same _ _ c.put.ensures.begin
