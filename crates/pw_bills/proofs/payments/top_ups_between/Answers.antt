use Rattle.std.proofs.Common.{rules}
use Rattle.pw_tariff.specs.Office.{office_of}
use Rattle.pw_bills.proofs.PaidSums.{rows-whole}
use Rattle.pw_bills.proofs.payments.top_ups_between.Goals as goal

pub returns-clause-sum : goal.returns-clause-sum
returns-clause-sum g c = λ k.
    let before = c.rows_held.ensures.asked.kept.clean k in
    rows-whole (office_of c.args.book.now.office) (g.S.Shelf.state c.args.book.now.shelf).content.records c.args.account c.args.from c.args.until c.in_ok-rows.rows.items
    (c.args.book.now.of_office c.in_ok-still_open.ensures before) (c.in_ok-rows.ensures.rows k)

pub rows_held-requires : goal.rows_held-requires
rows_held-requires g c = search rules depth 0 fits 100
