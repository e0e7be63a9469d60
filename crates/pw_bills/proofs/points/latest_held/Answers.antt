use Rattle.std.proofs.Common.{◌≡◌, ℕ, List, Option, length, ap, sym, subst, ◌∙◌, arith}
use Rattle.pw_flow.specs.Time.{last}
use Rattle.pw_model.specs.Shelf.{ShelfContent}
use Rattle.pw_model.proofs.EntryOrder.{if-ok}
use Rattle.pw_shelf.specs.Seconds.{IsBefore, ListsSecondsWithin}
use Rattle.pw_bills.proofs.LastRead.{before-told, first-told, latest-few}
use Rattle.pw_bills.proofs.points.latest_held.Goals as goal

pub returns-in-Some-clause-point : goal.returns-in-Some-clause-point
returns-in-Some-clause-point g c = λ k.
    let told = (g.S.Shelf.state c.args.shelf.now).content.point c.args.place.now.meter.0 c.args.place.now.register in
    let L : List (ℕ × ℕ) → Type 0 = λ ps. ListsSecondsWithin c.args.place.now.stretches.now.last c.args.place.now.stretches.now.last told ps in
    first-told told c.args.place.now.stretches.now.last c.deref.result.now c.in-Some.point (subst L (sym c.deref.ensures.value) (c.in_ok-here.ensures.rows k)) (sym c.earliest.ensures ∙ c.in-Some.is)

pub returns-in-Some-clause-tally : goal.returns-in-Some-clause-tally
returns-in-Some-clause-tally g c = λ k.
    let told = (g.S.Shelf.state c.args.shelf.now).content.point c.args.place.now.meter.0 c.args.place.now.register in
    let few = latest-few told c.args.place.now.stretches.now.last c.in_ok-here.here.items _ _ _ (c.in_ok-here.ensures.rows k) (sym c.deref.ensures.len ∙ ap (λ (ps : List (ℕ × ℕ)). length ps) c.deref.ensures.value) c.in_ok-here.ensures.tally in
    omega (arith, few)

pub returns-clause-point : goal.returns-clause-point
returns-clause-point g c = λ k.
    let before = c.point_before_held.ensures.asked.kept.clean k in
    let told = (g.S.Shelf.state c.args.shelf.now).content.point c.args.place.now.meter.0 c.args.place.now.register in
    let there = (g.S.Shelf.state c.points_held.new.shelf).content.point c.args.place.now.meter.0 c.args.place.now.register in
    let same : there ≡ told = ap (λ (d : ShelfContent). d.point c.args.place.now.meter.0 c.args.place.now.register) (c.in_ok-here.ensures.asked.content before) in
    let L : List (ℕ × ℕ) → Type 0 = λ ps. ListsSecondsWithin c.args.place.now.stretches.now.last c.args.place.now.stretches.now.last told ps in
    let rows = subst L (sym c.deref.ensures.value) (c.in_ok-here.ensures.rows before) in
    if-ok c.point_before_held.result (λ found. IsBefore there c.args.place.now.stretches.now.last found) (λ latest. latest ≡ last told c.args.place.now.stretches.now.last)
    (λ found h. before-told told c.args.place.now.stretches.now.last c.deref.result.now found rows (sym c.earliest.ensures ∙ c.in-None.is) (subst (λ (f : ℕ → Option ℕ). IsBefore f c.args.place.now.stretches.now.last found) same h))
    (c.point_before_held.ensures.row k)
