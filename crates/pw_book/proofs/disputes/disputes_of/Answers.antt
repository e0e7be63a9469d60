use Rattle.std.proofs.Common.{Vec, Global, ap, ◌∙◌, arith}
use Rattle.pw_model.specs.declared.records.Dispute.{Dispute}
use Rattle.pw_book.proofs.Disputed.{tail-rises, tail-more, step-alone, step-many, all-met}
use Rattle.pw_book.proofs.disputes.disputes_of.Goals as goal
use Rattle.pw_book.proofs.disputes.disputes_of.Goals.{then-same-gt0+in_ok-push, else-same-gt0}

pub loop-first-preserved : goal.loop-first-preserved
loop-first-preserved c =
    let split = c.in-Some.ensures.cases.0 in
    record {
      rest = tail-more c.args.records.now c.loop-first.rest.now c.in-Some.others.now c.in-Some.first.now c.same_key_behind-same.result split c.loop-first.invariant.rest;
      disputes = λ r few. let rises = rw split at (tail-rises c.args.records.now c.loop-first.rest.now r c.loop-first.invariant.rest) in elim c.if-same-gt0.branch [
        | then-same-gt0+in_ok-push w ↦ step-many c.args.records.now c.loop-first.rest.now c.in-Some.others.now c.in-Some.first.now c.same_key_behind-same.result c.loop-first.disputes.items c.if-same-gt0.disputes.items w.dispute.result
            r split (c.loop-first.invariant.disputes r few) (c.same_key_behind-same.ensures.same rises) w.if-same-gt0.true few w.dispute.ensures (ap (λ (v : Vec Dispute Global). v.items) w.disputes-is ∙ w.in_ok-push.ensures.items)
        | else-same-gt0 w ↦ step-alone c.args.records.now c.loop-first.rest.now c.in-Some.others.now c.in-Some.first.now c.same_key_behind-same.result c.loop-first.disputes.items c.if-same-gt0.disputes.items
            r split (c.loop-first.invariant.disputes r few) (c.same_key_behind-same.ensures.same rises) (λ p. let q = w.if-same-gt0.false in omega (arith, p, q)) (ap (λ (v : Vec Dispute Global). v.items) w.disputes-is)
      ];
    }

pub returns : goal.returns
returns c = λ r few. all-met c.args.records.now c.loop-first.rest.now c.loop-first.disputes.items c.in_default.ensures.cases (c.loop-first.invariant.disputes r few)
