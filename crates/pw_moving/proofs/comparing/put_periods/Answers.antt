use Rattle.std.proofs.Common.{arith}
use Rattle.pw_moving.proofs.Rising.{lines-next, lines-none, periods-all}
use Rattle.pw_moving.proofs.comparing.put_periods.Goals as goal

pub loop-period-init : goal.loop-period-init
loop-period-init c = lines-none (record { old = c.args.old.now; new = c.args.new.now }) 3 c.args.changes.now.items

pub loop-period-preserved : goal.loop-period-preserved
loop-period-preserved c =
    lines-next (record { old = c.args.old.now; new = c.args.new.now }) 3 c.loop-period.period c.args.changes.now.items c.loop-period.changes.items c.put_period.new.changes.items
    c.loop-period.invariant c.in_ok-put_period.ensures

pub returns : goal.returns
returns c =
    periods-all (record { old = c.args.old.now; new = c.args.new.now }) c.loop-period.period c.args.changes.now.items c.loop-period.changes.items
    (omega (arith, c.max-period-end.ensures, c.periods.ensures.count, c.periods-2.ensures.count, c.loop-period-test.false))
    (omega (arith, c.max-period-end.ensures, c.periods.ensures.count, c.periods-2.ensures.count, c.loop-period-test.false)) c.loop-period.invariant
