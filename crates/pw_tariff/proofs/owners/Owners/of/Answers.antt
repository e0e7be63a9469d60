use Rattle.std.proofs.Common.{arith}
use Rattle.pw_tariff.proofs.Starts.{not-rising, rising-more}
use Rattle.pw_tariff.proofs.owners.Owners.of.Goals as goal

pub returns-then-seconds-clause-none : goal.returns-then-seconds-clause-none
returns-then-seconds-clause-none c =
    not-rising c.args.starts.now c.loop-i.i c.seconds.result c.seconds-in-loop-i.result c.index-starts-i.result c.index-starts-i-in-loop-i.result
    (omega arith) (omega arith) c.seconds.ensures.value c.seconds-in-loop-i.ensures.value (omega arith)

pub loop-i-preserved : goal.loop-i-preserved
loop-i-preserved c =
    rising-more c.args.starts.now c.loop-i.i c.seconds.result c.seconds-in-loop-i.result c.index-starts-i.result c.index-starts-i-in-loop-i.result
    (omega arith) (omega arith) c.seconds.ensures.value c.seconds-in-loop-i.ensures.value (omega arith) c.loop-i.invariant
