use Rattle.pw_parts.proofs.Truth.{at-most_one}
use Rattle.pw_parts.proofs.laws.parts_are_at_most_one.Goals as goal

pub returns : goal.returns
returns c = at-most_one
