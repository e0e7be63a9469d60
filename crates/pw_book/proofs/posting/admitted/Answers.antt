use Rattle.std.proofs.Common.{rules}
use Rattle.pw_book.proofs.posting.admitted.Goals as goal

pub returns-then-held-limit : goal.returns-then-held-limit
returns-then-held-limit c = search rules depth 0 fits 100

pub returns : goal.returns
returns c = search rules depth 0 fits 100
