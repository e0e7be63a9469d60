use Rattle.std.proofs.Common.{◌+◌, arith}
use Rattle.pw_tariff.proofs.Runs.{part-is}
use Rattle.pw_tariff.proofs.pieces.part_end.Goals as goal

pub returns : goal.returns
returns c =
    part-is c.args.owners.now c.args.second c.args.end (c.args.second + c.min.result) c.next_start.result (omega arith) (omega (arith, c.min.ensures)) c.next_start.ensures
