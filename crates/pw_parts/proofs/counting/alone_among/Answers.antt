use Rattle.std.proofs.Common.{◌∙◌, sym, ap, Vec, Global}
use Rattle.std.proofs.lemmas.Bool.{true≢false}
use Rattle.pw_model.specs.declared.records.Entry.{Entry}
use Rattle.pw_parts.proofs.Groups.{rest-rises, step-one, step-many, no-rest, few-push, few-skip}
use Rattle.pw_parts.proofs.counting.alone_among.Goals as goal
use Rattle.pw_parts.proofs.counting.alone_among.Goals.{then-counts_with+in_ok-push, else-counts_with}

pub loop-first-preserved : goal.loop-first-preserved
loop-first-preserved c =
    let split = c.in-Some.ensures.cases.0 in
    let so_far = c.loop-first.invariant.so_far in
    let within = c.same_key_behind-same.ensures.within in
    elim c.if-counts_with.branch [
      | then-counts_with+in_ok-push w ↦ (
          let push = ap (λ (v : Vec Entry Global). v.items) w.counted-is ∙ w.in_ok-push.ensures.items in
          record {
            so_far = λ r a. step-one c.args.records.now c.loop-first.rest.now c.in-Some.others.now c.loop-first.counted.items c.if-counts_with.counted.items c.in-Some.first.now c.same_key_behind-same.result a r split (so_far r a)
                (c.same_key_behind-same.ensures.same (rw split at (rest-rises c.args.records.now c.loop-first.rest.now c.loop-first.counted.items r (so_far r a)))) (c.counts_with.ensures.0 w.if-counts_with.true) push;
            few = few-push c.args.records.now c.loop-first.rest.now c.in-Some.others.now c.loop-first.counted.items c.if-counts_with.counted.items c.in-Some.first.now c.same_key_behind-same.result split within c.loop-first.invariant.few push;
          })
      | else-counts_with w ↦ (
          let same = ap (λ (v : Vec Entry Global). v.items) w.counted-is in
          record {
            so_far = λ r a. step-many c.args.records.now c.loop-first.rest.now c.in-Some.others.now c.loop-first.counted.items c.if-counts_with.counted.items c.in-Some.first.now c.same_key_behind-same.result a r split (so_far r a)
                (c.same_key_behind-same.ensures.same (rw split at (rest-rises c.args.records.now c.loop-first.rest.now c.loop-first.counted.items r (so_far r a)))) (λ h. true≢false (sym (c.counts_with.ensures.1 h) ∙ w.if-counts_with.false)) same;
            few = few-skip c.args.records.now c.loop-first.rest.now c.in-Some.others.now c.loop-first.counted.items c.if-counts_with.counted.items c.in-Some.first.now c.same_key_behind-same.result split within c.loop-first.invariant.few same;
          })
    ]

pub returns-clause-counting : goal.returns-clause-counting
returns-clause-counting c = λ r a. no-rest c.args.records.now c.loop-first.rest.now c.loop-first.counted.items c.in_default.ensures.cases (c.loop-first.invariant.so_far r a)
