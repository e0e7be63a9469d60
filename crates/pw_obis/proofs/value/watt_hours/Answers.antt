use Rattle.pw_obis.proofs.OneUnit.{energy_is}
use Rattle.pw_obis.proofs.value.watt_hours.Goals as goal

pub returns : goal.returns
returns c = energy_is c.args.text.now c.in-Some.number.now c.in-Some.unit c.counted.result c.in-Some.ensures.some c.counted.ensures
