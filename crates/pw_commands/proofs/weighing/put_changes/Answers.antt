use Rattle.pw_moving.proofs.Weekly.{change-there}
use Rattle.pw_commands.proofs.weighing.put_changes.Goals as goal

pub may_be_adopted-may_be-requires : goal.may_be_adopted-may_be-requires
may_be_adopted-may_be-requires c = change-there (record { old = c.args.old.now; new = c.args.new.now }) c.args.changes.now c.loop-change.change-index _ c.requires c.loop-change-test.true
