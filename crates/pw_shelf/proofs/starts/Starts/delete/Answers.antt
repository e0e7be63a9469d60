use Rattle.std.proofs.Common.{None}
use Rattle.std.proofs.lemmas.Result.{on_ok_weaker}
use Rattle.pw_shelf.specs.Standing.{start_then}
use Rattle.pw_shelf.proofs.RowChanges.{dated-deleted, dated-same, starts-change, starts-same}
use Rattle.pw_shelf.proofs.starts.Starts.delete.Goals as goal

pub returns-clause-deleted : goal.returns-clause-deleted
returns-clause-deleted c = on_ok_weaker c.delete.result
    (starts-change c.args.self.now.table c.delete.new.self c.args.meter c.args.start None) c.delete.ensures.deleted

pub returns-clause-begin : goal.returns-clause-begin
returns-clause-begin c = starts-same _ _ c.delete.ensures.begin

pub invariant_of-self : goal.invariant_of-self
invariant_of-self c = record {
  back = c.delete.ensures.back;
  dated = dated-deleted c.args.self.now.table c.delete.new.self c.args.meter c.args.start c.delete.result
      c.delete.ensures.deleted c.delete.ensures.refused c.args.self.now.dated;
  dated_then = dated-same (start_then c.args.self.now.table) (start_then c.delete.new.self)
      (starts-same _ _ c.delete.ensures.begin) c.args.self.now.dated_then;
}
