use Rattle.pw_parts.proofs.Truth.{exactly-told}
use Rattle.pw_parts.proofs.laws.true_exactly_where_told.Goals as goal

pub returns : goal.returns
returns c = exactly-told
