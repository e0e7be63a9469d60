use Rattle.std.proofs.Common.{rules}
use Rattle.pw_time.proofs.WrittenDays.{written_is_utf8}
use Rattle.pw_time.proofs.writing.InstantDisplay.fmt.Goals as goal

pub unreachable-requires : goal.unreachable-requires
unreachable-requires g c =
    c.in-Err.ensures.cases.0 (written_is_utf8 c.args.self.now c.write_utc.result c.write_utc.ensures.read_back)

pub returns-clause-writes : goal.returns-clause-writes
returns-clause-writes g c = search rules depth 0 fits 100
