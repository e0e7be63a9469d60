use Rattle.pw_time.proofs.UniqueOutcomes.{one_readout_outcome}
use Rattle.pw_time.proofs.laws.readout_has_one_outcome.Goals as goal

pub returns : goal.returns
returns c = record {
  one = record {
    answer = c.readout_instant.result;
    holds = c.readout_instant.ensures;
    only = λ other right.
        one_readout_outcome c.args.date.now c.args.time.now c.args.clock
        c.readout_instant.result other c.readout_instant.ensures right;
  };
  never_two = one_readout_outcome;
}
