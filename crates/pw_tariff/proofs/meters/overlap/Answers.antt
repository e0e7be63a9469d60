use Rattle.std.proofs.Common.{rules}
use Rattle.pw_tariff.proofs.meters.overlap.Goals as goal

pub returns-then-import : goal.returns-then-import
returns-then-import c = search rules depth 0 fits 100
