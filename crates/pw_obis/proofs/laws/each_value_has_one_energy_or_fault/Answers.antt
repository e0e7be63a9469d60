use Rattle.pw_obis.proofs.OneUnit.{one_answer}
use Rattle.pw_obis.proofs.laws.each_value_has_one_energy_or_fault.Goals as goal

pub returns : goal.returns
returns c = record { answer = c.watt_hours.result; holds = c.watt_hours.ensures; only = λ other x. one_answer c.args.value.now c.watt_hours.result other c.watt_hours.ensures x }
