use Rattle.std.proofs.Common.{rules}
use Rattle.pw_model.proofs.PaddedText.{text-fits}
use Rattle.pw_model.proofs.reference.Reference.of.Goals as goal

pub invariant_of-result : goal.invariant_of-result
invariant_of-result c = text-fits c.args.text.now c.copy_from_slice.new.self (search rules) (search rules)

pub returns-then-is_empty-clause-none : goal.returns-then-is_empty-clause-none
returns-then-is_empty-clause-none c = search rules depth 0 fits 100
