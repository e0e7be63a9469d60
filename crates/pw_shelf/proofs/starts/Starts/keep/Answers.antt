use Rattle.pw_shelf.specs.Standing.{start_now, start_then}
use Rattle.pw_shelf.proofs.RowChanges.{dated-same, starts-same}
use Rattle.pw_shelf.proofs.starts.Starts.keep.Goals as goal

pub returns-clause-same : goal.returns-clause-same
returns-clause-same c = starts-same _ _ c.keep.ensures.same

pub returns-clause-begin : goal.returns-clause-begin
returns-clause-begin c = starts-same _ _ c.keep.ensures.begin

pub invariant_of-self : goal.invariant_of-self
invariant_of-self c = record {
  back = c.keep.ensures.back;
  dated = dated-same (start_now c.args.self.now.table) (start_now c.keep.new.self)
      (starts-same _ _ c.keep.ensures.same) c.args.self.now.dated;
  dated_then = dated-same (start_now c.args.self.now.table) (start_then c.keep.new.self)
      (starts-same _ _ c.keep.ensures.begin) c.args.self.now.dated;
}
