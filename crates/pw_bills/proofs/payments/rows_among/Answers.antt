use Rattle.std.proofs.Common.{◌≡◌, Vec, Global, ap, sym, ◌∙◌}
use Rattle.pw_model.specs.Counting.{contents_at}
use Rattle.pw_model.specs.Shelf.{ShelfContent}
use Rattle.pw_model.proofs.Places.{at-told}
use Rattle.pw_book.proofs.Chains.{asked-then}
use Rattle.pw_bills.specs.declared.payments.TopUpRow.{TopUpRow}
use Rattle.pw_bills.specs.inner.TopUpRows.{row_told}
use Rattle.pw_bills.proofs.RowsListed.{reads-next, row-more, row-passed, rows-all}
use Rattle.pw_bills.proofs.payments.rows_among.Goals as goal
use Rattle.pw_bills.proofs.payments.rows_among.Goals.{in-Some+in_ok-push, in_default}

pub loop-entry-preserved : goal.loop-entry-preserved
loop-entry-preserved g c =
    let was = c.loop-entry.invariant in
    let e = c.entry-item.result in
    let at = at-told c.args.held.now c.loop-entry.entry-index e c.loop-entry-test.true c.entry-item.is in
    record {
      rows = λ k.
          let before = c.row_counting.ensures.asked.kept.clean k in
          let told = contents_at (g.S.Shelf.state c.args.shelf.now).content.records in
          let row : c.in_ok-row.field-0 ≡ row_told told c.args.account c.args.from c.args.until e
          = c.in_ok-row.ensures.row k ∙ ap (λ (d : ShelfContent). row_told (contents_at d.records) c.args.account c.args.from c.args.until e) (was.asked.content before) in
          elim c.match-branch-2.branch [
            | in-Some+in_ok-push w ↦ row-more told c.args.account c.args.from c.args.until c.args.held.now c.loop-entry.entry-index e c.loop-entry.rows.items c.match-branch-2.rows.items w.in-Some.row at (was.rows before)
                (sym w.in-Some.is ∙ row) (ap (λ (v : Vec TopUpRow Global). v.items) w.rows-is ∙ w.in_ok-push.ensures.items)
            | in_default w ↦ row-passed told c.args.account c.args.from c.args.until c.args.held.now c.loop-entry.entry-index e c.loop-entry.rows.items c.match-branch-2.rows.items at (was.rows before)
                (sym w.in_default.is ∙ row) (ap (λ (v : Vec TopUpRow Global). v.items) w.rows-is)
          ];
      tally = reads-next c.args.account c.args.from c.args.until c.args.held.now c.loop-entry.entry-index e _ _ _ at was.tally c.in_ok-row.ensures.tally;
      asked = asked-then _ g.met.S.Shelf.same_then _ _ _ _ was.asked c.in_ok-row.ensures.asked;
    }

pub returns-clause-rows : goal.returns-clause-rows
returns-clause-rows g c = λ k.
    rows-all (contents_at (g.S.Shelf.state c.args.shelf.now).content.records) c.args.account c.args.from c.args.until c.args.held.now c.loop-entry.entry-index c.loop-entry.rows.items c.loop-entry-test.false (c.loop-entry.invariant.rows k)
