use Rattle.std.proofs.Common.{Some, subst}
use Rattle.std.proofs.lemmas.Result.{on_ok_weaker}
use Rattle.pw_time.specs.Instants.{IsInstant}
use Rattle.pw_shelf.specs.Standing.{start_then}
use Rattle.pw_shelf.proofs.RowChanges.{dated-put, dated-same, starts-change, starts-same}
use Rattle.pw_shelf.proofs.starts.Starts.put.Goals as goal

pub returns-clause-put : goal.returns-clause-put
returns-clause-put c = on_ok_weaker c.put.result
    (starts-change c.args.self.now.table c.put.new.self c.args.meter c.args.start (Some c.args.owner)) c.put.ensures.put

pub returns-clause-begin : goal.returns-clause-begin
returns-clause-begin c = starts-same _ _ c.put.ensures.begin

pub invariant_of-self : goal.invariant_of-self
invariant_of-self c =
    let instant : IsInstant c.args.start =
    subst IsInstant c.seconds-second.ensures.value c.seconds-second.ensures.within in
    record {
      back = c.put.ensures.back;
      dated = dated-put c.args.self.now.table c.put.new.self c.args.meter c.args.start c.args.owner c.put.result
          c.put.ensures.put c.put.ensures.refused instant c.args.self.now.dated;
      dated_then = dated-same (start_then c.args.self.now.table) (start_then c.put.new.self)
          (starts-same _ _ c.put.ensures.begin) c.args.self.now.dated_then;
    }
