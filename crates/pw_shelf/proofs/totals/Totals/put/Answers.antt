use Rattle.std.proofs.lemmas.Result.{on_ok_weaker}
use Rattle.pw_shelf.proofs.RowChanges.{totals-change}
use Rattle.pw_shelf.proofs.totals.Totals.put.Goals as goal

pub returns-clause-put : goal.returns-clause-put
returns-clause-put c = on_ok_weaker c.put.result
    (totals-change c.args.self.now.table c.put.new.self c.args.key.now c.args.amount) c.put.ensures.put
