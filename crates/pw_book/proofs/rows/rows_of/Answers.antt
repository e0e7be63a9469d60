use Rattle.std.proofs.Common.{◌≡◌, Option, Vec, Global, None, MatchOption, ap, subst, ◌∙◌}
use Rattle.pw_model.specs.declared.records.ReadingRow.{ReadingRow}
use Rattle.pw_model.specs.Counting.{contents_at, point}
use Rattle.pw_model.specs.Shelf.{ShelfContent}
use Rattle.pw_parts.specs.Shown.{shown}
use Rattle.pw_book.specs.inner.Counted.{IsRowOf}
use Rattle.pw_book.proofs.Chains.{asked-then}
use Rattle.pw_book.proofs.RowFacts.{all-rows, next-row, no-row}
use Rattle.pw_book.proofs.rows.rows_of.Goals as goal
use Rattle.pw_book.proofs.rows.rows_of.Goals.{in-Some+in_ok-push, in_default}

pub loop-entry-preserved : goal.loop-entry-preserved
loop-entry-preserved g c = record {
  rows = λ k told m r p rise h.
      let before = c.row_of.ensures.asked.kept.clean k in
      let was = c.loop-entry.invariant.rows before told m r p rise h in
      let e = c.entry-item.result in
      let records = (g.S.Shelf.state c.args.shelf.now).content.records in
      let M : ShelfContent → Option ReadingRow → Type 0 = λ d o. MatchOption o (shown e ≡ None) (IsRowOf told d.records e) in
      let told_of : M (g.S.Shelf.state c.args.shelf.now).content c.in_ok-row.field-0 = subst (λ (d : ShelfContent). M d c.in_ok-row.field-0) (c.loop-entry.invariant.asked.content before) (c.in_ok-row.ensures.row k told p) in
      elim c.match-branch-2.branch [
        | in-Some+in_ok-push w ↦ next-row told records c.args.readings.now c.loop-entry.entry-index e m r c.loop-entry.rows.items c.match-branch-2.rows.items c.loop-entry-test.true c.entry-item.is was w.in-Some.row rise h
            (subst (M (g.S.Shelf.state c.args.shelf.now).content) w.in-Some.is told_of) (ap (λ (v : Vec ReadingRow Global). v.items) w.rows-is ∙ w.in_ok-push.ensures.items)
        | in_default w ↦ no-row told records c.args.readings.now c.loop-entry.entry-index e m r c.loop-entry.rows.items c.match-branch-2.rows.items c.loop-entry-test.true c.entry-item.is was
            (subst (M (g.S.Shelf.state c.args.shelf.now).content) w.in_default.is told_of) (ap (λ (v : Vec ReadingRow Global). v.items) w.rows-is)
      ];
  asked = asked-then _ g.met.S.Shelf.same_then _ _ _ _ c.loop-entry.invariant.asked c.in_ok-row.ensures.asked;
}

pub returns-clause-rows : goal.returns-clause-rows
returns-clause-rows g c = λ k m r h p.
    let records = (g.S.Shelf.state c.args.shelf.now).content.records in
    all-rows records c.args.readings.now c.loop-entry.entry-index m r c.loop-entry.rows.items c.loop-entry-test.false (c.loop-entry.invariant.rows k (point (contents_at records) m.0 r) m r p h.rising (λ x n. ((h.members x).0 n).1)) h
