use Rattle.std.proofs.Common.{◌≡◌, ◌++◌, ◌+◌, ◌≤◌, drop}
use Rattle.pw_model.specs.Counting.{contents_at}
use Rattle.pw_book.specs.Asking.{IsOnlyAsked}
use Rattle.pw_bills.specs.inner.TopUpRows.{reads_among, rows_among}
use Rattle.pw_bills.proofs.payments.rows_among.Given as goal

abbrev pub invariant-loop-entry : goal.invariant-loop-entry
invariant-loop-entry g l = record {
  -- the rows so far, with those of the top-ups still to come
  rows : g.S.Shelf.clean l.shelf →
      l.rows.items ++ rows_among (contents_at (g.S.Shelf.state l.initial.shelf).content.records) l.account l.from l.until (drop l.entry-index l.held)
      ≡ rows_among (contents_at (g.S.Shelf.state l.initial.shelf).content.records) l.account l.from l.until l.held;
  tally : (g.S.Shelf.state l.shelf).tally + reads_among l.account l.from l.until (drop l.entry-index l.held)
      ≤ (g.S.Shelf.state l.initial.shelf).tally + reads_among l.account l.from l.until l.held;
  asked : IsOnlyAsked g.S.Shelf 0 l.initial.shelf l.shelf;
}
