use Rattle.std.proofs.Common.{List, ℕ, ap, length, sym, ◌∙◌}
use Rattle.std.specs.Option.{option_copied}
use Rattle.pw_book.specs.inner.Inferred.{told_by_point}
use Rattle.pw_book.proofs.Inferred.{none-at, some-at, taken-two}
use Rattle.pw_book.proofs.effect.told_at_point.Goals as goal

pub returns-in-Some-clause-told : goal.returns-in-Some-clause-told
returns-in-Some-clause-told g c = λ k.
    ap told_by_point (sym (some-at c.args.instant ((g.S.Shelf.state c.args.shelf.now).content.point c.args.meter.0 c.args.register) c.in_ok-points.points.items c.deref.result.now c.in-Some.point.now (c.in_ok-points.ensures.rows k) c.deref.ensures.value
    (sym c.first.ensures.value ∙ ap (λ o. option_copied o) c.in-Some.is)))

pub returns-clause-told : goal.returns-clause-told
returns-clause-told g c = λ k.
    ap told_by_point (sym (none-at c.args.instant ((g.S.Shelf.state c.args.shelf.now).content.point c.args.meter.0 c.args.register) c.in_ok-points.points.items c.deref.result.now (c.in_ok-points.ensures.rows k) c.deref.ensures.value
    (sym c.first.ensures.value ∙ ap (λ o. option_copied o) c.in-None.is)))

pub returns-in-Some-clause-tally : goal.returns-in-Some-clause-tally
returns-in-Some-clause-tally g c = λ k.
    taken-two _ _ _ c.args.instant ((g.S.Shelf.state c.args.shelf.now).content.point c.args.meter.0 c.args.register) c.in_ok-points.points.items (c.in_ok-points.ensures.rows k) c.in_ok-points.ensures.asked.tally
    (sym c.deref.ensures.len ∙ ap (λ (xs : List (ℕ × ℕ)). length xs) c.deref.ensures.value)
