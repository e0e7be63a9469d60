use Rattle.std.proofs.Common.{◌^◌, ◌<◌, length}
use Rattle.pw_model.specs.declared.records.Key.{Key}
use Rattle.pw_model.specs.Lists.{IsInOrder}
use Rattle.pw_model.specs.Same.{entry_order}
use Rattle.pw_book.specs.inner.Groups.{records_with}
use Rattle.pw_book.proofs.Disputed.{DisputesSoFar, IsTail}
use Rattle.pw_book.proofs.disputes.disputes_of.Given as goal

abbrev pub invariant-loop-first : goal.invariant-loop-first
invariant-loop-first l = record {
  rest : IsTail l.records l.rest;
  disputes : IsInOrder entry_order l.records → ((k : Key) → records_with k l.records < 2 ^ 32) → DisputesSoFar l.records l.rest l.disputes.items;
}

abbrev pub decreases-loop-first : goal.decreases-loop-first
decreases-loop-first l = length l.rest
