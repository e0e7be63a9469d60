use Rattle.std.proofs.Common.{length}
use Rattle.pw_model.specs.Lists.{IsInOrder}
use Rattle.pw_model.specs.Same.{entry_order}
use Rattle.pw_book.proofs.Disputed.{IsTail}
use Rattle.pw_book.proofs.Shared.{SharedSoFar}
use Rattle.pw_book.proofs.disputes.of_shared_keys.Given as goal

abbrev pub invariant-loop-first : goal.invariant-loop-first
invariant-loop-first l = record {
  rest : IsTail l.records l.rest;
  shared : IsInOrder entry_order l.records → SharedSoFar l.records l.rest l.shared.items;
}

abbrev pub decreases-loop-first : goal.decreases-loop-first
decreases-loop-first l = length l.rest
