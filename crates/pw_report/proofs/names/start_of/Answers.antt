use Rattle.std.proofs.Common.{true≢false, sym}
use Rattle.pw_report.proofs.Periods.{start-instant}
use Rattle.pw_report.proofs.names.start_of.Goals as goal

pub unreachable-requires : goal.unreachable-requires
unreachable-requires c =
    let first = start-instant c.args.office.now c.args.period.0 c.period_start.result c.periods-known.ensures.sound c.period_start.ensures in
    absurd (true≢false (sym (c.in-None.ensures.within.1 first)))
