use Rattle.pw_time.proofs.UniqueOutcomes.{one_stamp_outcome}
use Rattle.pw_time.proofs.laws.stamp_has_one_outcome.Goals as goal

pub returns : goal.returns
returns c = record {
  one = record {
    answer = c.stamp.result;
    holds = c.stamp.ensures;
    only = λ other right. one_stamp_outcome c.args.text.now c.stamp.result other c.stamp.ensures right;
  };
  never_two = one_stamp_outcome;
}
