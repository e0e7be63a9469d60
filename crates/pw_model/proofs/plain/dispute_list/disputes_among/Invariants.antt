use Rattle.pw_model.specs.inner.Search.{DisputesUnder}
use Rattle.pw_model.proofs.SoFar.{IsSoFar}
use Rattle.pw_model.proofs.PlainDisputes.{IsCountUp}
use Rattle.pw_model.proofs.plain.dispute_list.disputes_among.Given as goal

abbrev pub invariant-loop-index : goal.invariant-loop-index
invariant-loop-index l = record {
  listed : IsSoFar (DisputesUnder l.in_order) l.in_order l.index l.disputes.items;
  counted : IsCountUp l.in_order l.index l.contents;
}
