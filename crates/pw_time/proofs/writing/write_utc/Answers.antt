use Rattle.std.proofs.Common.{rules}
use Rattle.pw_time.proofs.WrittenDays.{is_written}
use Rattle.pw_time.proofs.writing.write_utc.Goals as goal

pub returns-clause-text : goal.returns-clause-text
returns-clause-text c = is_written c.args.instant _ (search rules)
