use Rattle.std.proofs.Common.{Ok}
use Rattle.pw_time.proofs.UniqueOutcomes.{one_utc_outcome}
use Rattle.pw_time.proofs.laws.written_is_read_back.Goals as goal

pub returns : goal.returns
returns c =
    one_utc_outcome c.write_utc.result c.utc.result (Ok c.args.instant) c.utc.ensures c.write_utc.ensures.read_back
