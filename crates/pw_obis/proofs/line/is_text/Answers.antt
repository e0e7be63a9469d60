use Rattle.std.proofs.Common.{rules}
use Rattle.pw_obis.proofs.line.is_text.Goals as goal

pub returns-then-byte-ne40 : goal.returns-then-byte-ne40
returns-then-byte-ne40 c = search rules depth 0 fits 100
