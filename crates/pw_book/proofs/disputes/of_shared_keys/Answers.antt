use Rattle.std.proofs.Common.{Vec, Global, List, ◌++◌, ap, ◌∙◌, arith}
use Rattle.pw_model.specs.declared.records.Entry.{Entry}
use Rattle.pw_book.proofs.Disputed.{tail-rises, tail-more}
use Rattle.pw_book.proofs.Shared.{all-shared, shared-alone, shared-many}
use Rattle.pw_book.proofs.disputes.of_shared_keys.Goals as goal
use Rattle.pw_book.proofs.disputes.of_shared_keys.Goals.{then-behind-gt0+in_ok-extend_from_slice+in_ok-extend_from_slice-2, else-behind-gt0}

pub loop-first-preserved : goal.loop-first-preserved
loop-first-preserved c =
    let split = c.in-Some.ensures.cases.0 in
    record {
      rest = tail-more c.args.records.now c.loop-first.rest.now c.in-Some.others.now c.in-Some.first.now c.same_key_behind-behind.result split c.loop-first.invariant.rest;
      shared = λ r. let rises = rw split at (tail-rises c.args.records.now c.loop-first.rest.now r c.loop-first.invariant.rest) in elim c.if-behind-gt0.branch [
        | then-behind-gt0+in_ok-extend_from_slice+in_ok-extend_from_slice-2 w ↦ shared-many c.args.records.now c.loop-first.rest.now c.in-Some.others.now c.in-Some.first.now c.same_key_behind-behind.result
            c.loop-first.shared.items c.if-behind-gt0.shared.items r split (c.loop-first.invariant.shared r) (c.same_key_behind-behind.ensures.same rises) w.if-behind-gt0.true
            (ap (λ (v : Vec Entry Global). v.items) w.shared-is ∙ w.in_ok-extend_from_slice-2.ensures.items ∙ ap (λ (xs : List Entry). xs ++ _) w.in_ok-extend_from_slice.ensures.items)
        | else-behind-gt0 w ↦ shared-alone c.args.records.now c.loop-first.rest.now c.in-Some.others.now c.in-Some.first.now c.same_key_behind-behind.result
            c.loop-first.shared.items c.if-behind-gt0.shared.items r split (c.loop-first.invariant.shared r) (c.same_key_behind-behind.ensures.same rises)
            (λ p. let q = w.if-behind-gt0.false in omega (arith, p, q)) (ap (λ (v : Vec Entry Global). v.items) w.shared-is)
      ];
    }

pub returns : goal.returns
returns c = λ r. all-shared c.args.records.now c.loop-first.rest.now c.loop-first.shared.items r c.in_default.ensures.cases (c.loop-first.invariant.shared r)
