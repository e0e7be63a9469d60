use Rattle.std.proofs.Common.{◌≡◌, ◌∷◌, [], ◌++◌, ap, sym, ◌∙◌}
use Rattle.pw_model.specs.Counting.{is_withdrawn as is_withdrawn_by, standing_among as standing_of}
use Rattle.pw_model.specs.Shelf.{ShelfContent}
use Rattle.pw_model.proofs.Places.{at-told, take-all}
use Rattle.pw_model.proofs.Standing.{standing-next, standing-pass}
use Rattle.pw_book.proofs.Chains.{asked-then}
use Rattle.pw_book.proofs.withdrawn.standing_among.Goals as goal
use Rattle.pw_book.proofs.withdrawn.standing_among.Goals.{then-not-branch+in_ok-extend_from_slice, else-not-branch}

pub loop-entry-preserved : goal.loop-entry-preserved
loop-entry-preserved g c = record {
  standing = λ k.
      let before = c.is_withdrawn.ensures.asked.kept.clean k in
      let records = (g.S.Shelf.state c.args.shelf.now).content.records in
      let e = c.entry-item.result in
      let at = at-told c.args.records.now c.loop-entry.entry-index e c.loop-entry-test.true c.entry-item.is in
      let told : c.in_ok-is_withdrawn.field-0 ≡ is_withdrawn_by records e = c.in_ok-is_withdrawn.ensures.withdrawn k ∙ ap (λ (d : ShelfContent). is_withdrawn_by d.records e) (c.loop-entry.invariant.asked.content before) in
      elim c.if-not-branch.branch [
        | then-not-branch+in_ok-extend_from_slice w ↦ (
            let next = standing-next records c.args.records.now c.loop-entry.entry-index e at (sym told ∙ w.if-not-branch.true) in
            ap (λ v. v.items) w.all-is ∙ w.in_ok-extend_from_slice.ensures.items ∙ ap (λ l. l ++ e ∷ []) (c.loop-entry.invariant.standing before) ∙ sym next)
        | else-not-branch w ↦ (
            let pass = standing-pass records c.args.records.now c.loop-entry.entry-index e at (sym told ∙ w.if-not-branch.false) in
            ap (λ v. v.items) w.all-is ∙ c.loop-entry.invariant.standing before ∙ sym pass)
      ];
  asked = asked-then _ g.met.S.Shelf.same_then _ _ _ _ c.loop-entry.invariant.asked c.in_ok-is_withdrawn.ensures.asked;
}

pub returns-clause-standing : goal.returns-clause-standing
returns-clause-standing g c = λ k.
    let records = (g.S.Shelf.state c.args.shelf.now).content.records in
    c.loop-entry.invariant.standing k ∙ ap (standing_of records) (take-all c.args.records.now c.loop-entry.entry-index c.loop-entry-test.false)
