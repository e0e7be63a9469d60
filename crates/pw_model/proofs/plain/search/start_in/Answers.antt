use Rattle.std.proofs.Common.{rules}
use Rattle.pw_model.proofs.plain.search.start_in.Goals as goal

pub returns-then-other-meter : goal.returns-then-other-meter
returns-then-other-meter c = search rules depth 0 fits 100
