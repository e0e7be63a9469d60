use Rattle.pw_model.proofs.Counting.{one-more_record}
use Rattle.pw_model.proofs.laws.one_more_record.Goals as goal

pub returns : goal.returns
returns c = one-more_record
