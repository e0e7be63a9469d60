use Rattle.pw_time.proofs.UniqueOutcomes.{one_utc_outcome}
use Rattle.pw_time.proofs.laws.utc_has_one_outcome.Goals as goal

pub returns : goal.returns
returns c = record {
  one = record {
    answer = c.utc.result;
    holds = c.utc.ensures;
    only = λ other right. one_utc_outcome c.args.text.now c.utc.result other c.utc.ensures right;
  };
  never_two = one_utc_outcome;
}
