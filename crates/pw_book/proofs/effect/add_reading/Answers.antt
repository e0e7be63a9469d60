use Rattle.std.proofs.Common.{ap, subst, sym, ◌∙◌}
use Rattle.pw_model.specs.Counting.{IsInserted, contents_at}
use Rattle.pw_model.specs.Shelf.{ShelfContent}
use Rattle.pw_book.proofs.effect.add_reading.Goals as goal

pub returns-clause-before : goal.returns-clause-before
returns-clause-before g c = λ k office o p.
    let second = c.told_before.ensures.kept.clean k in
    let first = c.contents_at.ensures.asked.kept.clean second in
    let old = (g.S.Shelf.state c.args.shelf.now).content in
    let e = c.args.entry.now in
    let added = c.in_ok-add.ensures.added first in
    let same = c.in_ok-behind.ensures.asked.same second in
    let P : ShelfContent → Type 0 = λ d. IsInserted e old.records d.records in
    c.in_ok-before.ensures.before k office old.records (subst P (sym same) added.records) (c.requires.fresh (c.add.ensures.written.kept.clean first)) o (ap (λ (d : ShelfContent). d.point) same ∙ added.point ∙ p)
    (c.in_ok-behind.ensures.rows second ∙ ap (λ (d : ShelfContent). contents_at d.records e.key) (sym same))
