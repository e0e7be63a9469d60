use Rattle.std.proofs.Common.{true≢false, sym}
use Rattle.pw_report.proofs.MonthDays.{month_later}
use Rattle.pw_report.proofs.months.span_of.Goals as goal

pub returns : goal.returns
returns c =
    let first = rw c.seconds-begun.ensures.value at c.seconds-begun.ensures.within in
    record {
      first = first;
      later = month_later c.args.month.year c.args.month.month _ _ c.requires first c.in-Some.ensures.month;
      month = c.in-Some.ensures.month;
    }

pub unreachable-requires : goal.unreachable-requires
unreachable-requires c = absurd (true≢false (sym (c.in-None.ensures.there.1 c.requires)))
