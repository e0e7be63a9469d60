use Rattle.std.proofs.Common.{rules}
use Rattle.pw_tariff.specs.Office.{office_of}
use Rattle.pw_carrying.proofs.NotSent.{unsent-all}
use Rattle.pw_carrying.proofs.held.unsent.Goals as goal

pub returns-clause-unsent : goal.returns-clause-unsent
returns-clause-unsent g c = λ k.
    let start = c.in_ok-add_held.ensures.asked.kept.clean k in
    unsent-all (office_of c.args.book.now.office) c.args.sent.now (g.S.Shelf.state c.args.book.now.shelf).content.records c.new-found.result.items c.add_held.new.found.items
    (c.args.book.now.of_office c.in_ok-still_open.ensures start) c.new-found.ensures.items (c.in_ok-add_held.ensures.adds k)

pub add_held-requires-clause-idle : goal.add_held-requires-clause-idle
add_held-requires-clause-idle g c = search rules depth 0 fits 100
