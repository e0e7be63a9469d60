use Rattle.std.proofs.Common.{◌+◌, arith, sym}
use Rattle.pw_flow.proofs.Level.{level-up, pair_flow-is, pair_flow-fall}
use Rattle.pw_flow.proofs.plain.flow_at.Goals as goal

pub returns-then-to-from : goal.returns-then-to-from
returns-then-to-from c = sym (pair_flow-fall c.args.from.at c.args.from.watt_hours c.args.to.at c.args.to.watt_hours c.args.second (omega arith))

pub overflow_sub-result : goal.overflow_sub-result
overflow_sub-result c =
    let up = level-up c.args.from.at c.args.from.watt_hours c.args.to.at c.args.to.watt_hours c.args.second (c.args.second + 1) (omega arith) (omega arith) in
    omega (arith, up, c.level_at.ensures.level, c.level_at-2.ensures.level)

pub returns : goal.returns
returns c =
    let flow = pair_flow-is c.args.from.at c.args.from.watt_hours c.args.to.at c.args.to.watt_hours c.args.second (omega arith) in
    omega (arith, flow, c.level_at.ensures.level, c.level_at-2.ensures.level)
