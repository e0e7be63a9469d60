use Rattle.pw_shelf.specs.Standing.{start_now, start_then}
use Rattle.pw_shelf.proofs.RowChanges.{dated-same, starts-same}
use Rattle.pw_shelf.proofs.starts.Starts.go_back.Goals as goal

pub returns-clause-back : goal.returns-clause-back
returns-clause-back c = starts-same _ _ c.go_back.ensures.went

pub returns-clause-begin : goal.returns-clause-begin
returns-clause-begin c = starts-same _ _ c.go_back.ensures.begin

pub invariant_of-self : goal.invariant_of-self
invariant_of-self c = record {
  back = c.go_back.ensures.back;
  dated = dated-same (start_then c.args.self.now.table) (start_now c.go_back.new.self)
      (starts-same _ _ c.go_back.ensures.went) c.args.self.now.dated_then;
  dated_then = dated-same (start_then c.args.self.now.table) (start_then c.go_back.new.self)
      (starts-same _ _ c.go_back.ensures.begin) c.args.self.now.dated_then;
}
