use Rattle.pw_moving.proofs.Weekly.{meters-named}
use Rattle.pw_moving.proofs.comparing.is_same_name.Goals as goal

pub returns-in-Meters : goal.returns-in-Meters
returns-in-Meters c = meters-named (record { old = c.args.old.now; new = c.args.new.now }) c.args.list c.args.from c.args.to c.meter_name.result.now c.meter_name-in-Meters.result.now
    c.eq-in-Meters.result c.in-Meters.is c.meter_name.ensures c.meter_name-in-Meters.ensures c.eq-in-Meters.ensures
