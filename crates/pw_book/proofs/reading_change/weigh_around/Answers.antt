use Rattle.std.proofs.Common.{◌≡◌, ◌+◌, ap, subst, arith, ◌∙◌}
use Rattle.pw_model.specs.Shelf.{ShelfContent}
use Rattle.pw_parts.specs.Changes.{gathered, other_side, pairs_for}
use Rattle.pw_parts.specs.declared.changes.Side.{Side}
use Rattle.pw_book.proofs.Known.{still-known}
use Rattle.pw_book.proofs.Neighbouring.{around-sums, other-back}
use Rattle.pw_book.proofs.reading_change.weigh_around.Goals as goal

pub returns-clause-around : goal.returns-clause-around
returns-clause-around g c = λ k free is same start_is more ends.
    let second = c.point_after.ensures.asked.kept.clean k in
    let first = c.point_before.ensures.asked.kept.clean second in
    around-sums c.args.basis.now.office.now free is c.args.reading.now.meter.0 c.args.reading.now.register c.args.reading.now.instant c.args.wh
    (g.S.Shelf.state c.args.shelf.now).content _ _ c.direction_of-direction.result c.know_starts.new.known.starts.items _ _ c.in_ok-below.below c.in_ok-above.above _ _ _ _ _ _ _ _
    (c.in_ok-know_starts.ensures.same first) (c.in_ok-below.ensures.asked.same second) c.direction_of-direction.ensures
    c.requires.meter c.requires.counts same start_is more ends (c.in_ok-know_starts.ensures.starts first) c.deref.ensures.value c.deref-3.ensures.value
    (c.in_ok-below.ensures.row second) (c.in_ok-above.ensures.row k)
    c.in_ok-apart.ensures c.deref-2.ensures.value c.in_ok-joined.ensures c.deref-4.ensures.value
    (λ s o t.
    let mid = c.add_points.new.changes.rows in
    let old = c.args.so_far.now.changes.rows in
    let P : Side → Type 0 = λ x. gathered x mid t ≡ gathered x old t + pairs_for c.args.basis.now.office.now c.deref.result.now c.direction_of-direction.result c.deref-2.result.now t in
    c.in_ok-add_points-2.ensures.other t ∙ subst P c.other-other.ensures (c.in_ok-add_points.ensures.gathered s o t))
    (λ s o t.
    let mid = c.add_points.new.changes.rows in
    let old = c.args.so_far.now.changes.rows in
    let P : Side → Type 0 = λ x. gathered x mid t ≡ gathered x old t in
    let as_before = subst P (ap (λ x. other_side x) c.other-other.ensures ∙ other-back c.args.side) (c.in_ok-add_points.ensures.other t) in
    let more = c.in_ok-add_points-2.ensures.gathered s o t in
    omega (arith, more, as_before))

pub returns-clause-known : goal.returns-clause-known
returns-clause-known g c = λ k.
    let second = c.point_after.ensures.asked.kept.clean k in
    let first = c.point_before.ensures.asked.kept.clean second in
    still-known _ _ c.know_starts.new.known (ap (λ (d : ShelfContent). d.start) (c.in_ok-above.ensures.asked.same k ∙ c.in_ok-below.ensures.asked.same second)) (c.in_ok-know_starts.ensures.known first)
