use Rattle.std.proofs.Common.{rules}
use Rattle.pw_store.proofs.points.Side.text.Goals as goal

pub returns-in-Before : goal.returns-in-Before
returns-in-Before c = search rules depth 0 fits 100

pub returns-in-Behind : goal.returns-in-Behind
returns-in-Behind c = search rules depth 0 fits 100
