use Rattle.std.proofs.Common.{ap, sym, ◌∙◌, ◌∷◌, [], ◌++◌}
use Rattle.pw_model.specs.Counting.{standing_among}
use Rattle.pw_model.proofs.Places.{at-told, take-all}
use Rattle.pw_model.proofs.Standing.{standing-next, standing-pass, among-is}
use Rattle.pw_model.proofs.plain.standing.standing_among.Goals as goal
use Rattle.pw_model.proofs.plain.standing.standing_among.Goals.{then-not-is_withdrawn+in_ok-extend_from_slice, else-not-is_withdrawn}

pub loop-entry-preserved : goal.loop-entry-preserved
loop-entry-preserved c =
    let at = at-told c.args.in_order.now c.loop-entry.entry-index c.entry-item.result c.loop-entry-test.true c.entry-item.is in
    elim c.if-not-is_withdrawn.branch [
      | then-not-is_withdrawn+in_ok-extend_from_slice w ↦ (
          let next = standing-next c.args.in_order.now c.args.in_order.now c.loop-entry.entry-index c.entry-item.result at (sym c.is_withdrawn.ensures ∙ w.if-not-is_withdrawn.true) in
          ap (λ v. v.items) w.all-is ∙ w.in_ok-extend_from_slice.ensures.items ∙ ap (λ l. l ++ c.entry-item.result ∷ []) c.loop-entry.invariant ∙ sym next)
      | else-not-is_withdrawn w ↦ (
          let same = standing-pass c.args.in_order.now c.args.in_order.now c.loop-entry.entry-index c.entry-item.result at (sym c.is_withdrawn.ensures ∙ w.if-not-is_withdrawn.false) in
          ap (λ v. v.items) w.all-is ∙ c.loop-entry.invariant ∙ sym same)
    ]

pub returns : goal.returns
returns c =
    c.loop-entry.invariant ∙ ap (standing_among c.args.in_order.now) (take-all c.args.in_order.now c.loop-entry.entry-index c.loop-entry-test.false)
    ∙ among-is c.args.in_order.now
