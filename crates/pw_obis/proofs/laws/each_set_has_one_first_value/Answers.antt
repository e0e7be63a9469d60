use Rattle.pw_obis.proofs.FirstMark.{one_first_or_none}
use Rattle.pw_obis.proofs.laws.each_set_has_one_first_value.Goals as goal

pub returns : goal.returns
returns c = record { answer = c.first_value.result.now; holds = c.first_value.ensures; only = λ other x. one_first_or_none c.args.set.now.values.now c.first_value.result.now other c.first_value.ensures x }
