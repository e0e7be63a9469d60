use Rattle.std.proofs.Common.{rules}
use Rattle.pw_model.proofs.plain.search.with_one_more.Goals as goal

pub returns-else-is_same_content : goal.returns-else-is_same_content
returns-else-is_same_content c = search rules depth 0 fits 100
