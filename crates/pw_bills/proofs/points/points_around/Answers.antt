use Rattle.std.proofs.Common.{ℕ, ◌+◌, List, length, get_or, ap, sym, ◌∙◌}
use Rattle.pw_bills.specs.Stretches.{first_of}
use Rattle.pw_bills.proofs.Reading.{first-read, points-read, points-told, stretches-begin}
use Rattle.pw_bills.proofs.points.points_around.Goals as goal

pub returns-clause-points : goal.returns-clause-points
returns-clause-points g c = λ k.
    let second = c.points_held.ensures.asked.kept.clean k in
    let first = c.point_after_held.ensures.asked.kept.clean second in
    let begins = c.args.place.now.stretches.now.begins.now in
    let last : ℕ = c.args.place.now.stretches.now.last in
    let begun = stretches-begin begins last c.requires.stretches in
    points-told (g.S.Shelf.state c.args.shelf.now).content _ _ c.args.place.now.meter.0 c.args.place.now.register (first_of begins (last + 1)) (get_or begins 0 c.index-place-0.result) last c.in_ok-before.before c.in_ok-within.within.items c.deref.result.now c.in_ok-after.after c.in_ok-points.points.items
    (c.in_ok-before.ensures.asked.content first) (c.in_ok-after.ensures.asked.content second)
    (first-read begins (last + 1) c.index-place-0.result c.requires.stretches) begun
    (c.in_ok-before.ensures.row first) (c.in_ok-after.ensures.row second) (c.in_ok-within.ensures.rows k) c.deref.ensures.value c.in_ok-points.ensures

pub returns-in_err-points-clause-tally : goal.returns-in_err-points-clause-tally
returns-in_err-points-clause-tally g c = λ k most h.
    points-read g.S.Shelf _ _ _ _ _ _ c.args.place.now.meter.0 c.args.place.now.register c.args.place.now.stretches.now.last most c.in_ok-before.before c.in_ok-within.within.items c.in_ok-after.after _
    (first-read c.args.place.now.stretches.now.begins.now (c.args.place.now.stretches.now.last + 1) c.index-place-0.result c.requires.stretches) c.in_ok-before.ensures.asked c.in_ok-after.ensures.asked c.in_ok-within.ensures.asked k
    c.in_ok-within.ensures.rows h (sym c.deref.ensures.len ∙ ap (λ (xs : List (ℕ × ℕ)). length xs) c.deref.ensures.value) c.in_ok-before.ensures.tally c.in_ok-after.ensures.tally c.in_ok-within.ensures.tally

pub returns-clause-tally : goal.returns-clause-tally
returns-clause-tally g c = λ k most h.
    points-read g.S.Shelf _ _ _ _ _ _ c.args.place.now.meter.0 c.args.place.now.register c.args.place.now.stretches.now.last most c.in_ok-before.before c.in_ok-within.within.items c.in_ok-after.after _
    (first-read c.args.place.now.stretches.now.begins.now (c.args.place.now.stretches.now.last + 1) c.index-place-0.result c.requires.stretches) c.in_ok-before.ensures.asked c.in_ok-after.ensures.asked c.in_ok-within.ensures.asked k
    c.in_ok-within.ensures.rows h (sym c.deref.ensures.len ∙ ap (λ (xs : List (ℕ × ℕ)). length xs) c.deref.ensures.value) c.in_ok-before.ensures.tally c.in_ok-after.ensures.tally c.in_ok-within.ensures.tally
