use Rattle.std.proofs.Common.{rules}
use Rattle.pw_store.proofs.derived.parts_of.Goals as goal

pub true_parts-requires-clause-few : goal.true_parts-requires-clause-few
true_parts-requires-clause-few c = search rules depth 0 fits 100
