use Rattle.std.proofs.Common.{ap, sym, ◌∙◌, ◌∷◌, [], ◌++◌, arith, length, length-append}
use Rattle.pw_model.specs.Counting.{standing_among}
use Rattle.pw_model.proofs.Places.{at-told, take-all}
use Rattle.pw_model.proofs.Standing.{standing-next, standing-pass, among-is}
use Rattle.pw_parts.proofs.counting.standing_among.Goals as goal
use Rattle.pw_parts.proofs.counting.standing_among.Goals.{then-not-is_withdrawn+in_ok-push, else-not-is_withdrawn}

pub loop-entry-preserved : goal.loop-entry-preserved
loop-entry-preserved c =
    let at = at-told c.args.records.now c.loop-entry.entry-index c.entry-item.result c.loop-entry-test.true c.entry-item.is in
    let few = c.loop-entry.invariant.few in
    elim c.if-not-is_withdrawn.branch [
      | then-not-is_withdrawn+in_ok-push w ↦ (
          let new = ap (λ v. v.items) w.all-is ∙ w.in_ok-push.ensures.items in
          record {
            so_far = λ r. (
                let next = standing-next c.args.records.now c.args.records.now c.loop-entry.entry-index c.entry-item.result at (sym (c.is_withdrawn.ensures r) ∙ w.if-not-is_withdrawn.true) in
                new ∙ ap (λ l. l ++ c.entry-item.result ∷ []) (c.loop-entry.invariant.so_far r) ∙ sym next);
            few = (
                let a = ap length new in
                let b = length-append c.loop-entry.all.items (c.entry-item.result ∷ []) in
                omega (arith, a, b, few));
          })
      | else-not-is_withdrawn w ↦ (
          let same = ap (λ v. v.items) w.all-is in
          record {
            so_far = λ r. (
                let pass = standing-pass c.args.records.now c.args.records.now c.loop-entry.entry-index c.entry-item.result at (sym (c.is_withdrawn.ensures r) ∙ w.if-not-is_withdrawn.false) in
                same ∙ c.loop-entry.invariant.so_far r ∙ sym pass);
            few = (let a = ap length same in omega (arith, a, few));
          })
    ]

pub returns-clause-standing : goal.returns-clause-standing
returns-clause-standing c = λ r.
    c.loop-entry.invariant.so_far r ∙ ap (standing_among c.args.records.now) (take-all c.args.records.now c.loop-entry.entry-index c.loop-entry-test.false)
    ∙ among-is c.args.records.now
