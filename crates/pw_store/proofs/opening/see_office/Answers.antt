use Rattle.std.proofs.Common.{rules}
use Rattle.pw_store.proofs.opening.see_office.Goals as goal

pub returns-then-branch-clause-kept_text : goal.returns-then-branch-clause-kept_text
returns-then-branch-clause-kept_text g c = search rules depth 0 fits 100
