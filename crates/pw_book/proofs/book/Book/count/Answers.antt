use Rattle.std.proofs.Common.{sym, ◌∙◌}
use Rattle.pw_book.proofs.EachOne.{record-count}
use Rattle.pw_book.proofs.book.Book.count.Goals as goal

pub returns-clause-count : goal.returns-clause-count
returns-clause-count g c = λ k.
    c.in_ok-count_held.ensures.number k ∙ sym (record-count _ (g.met.S.Shelf.once c.args.self.now.shelf (c.count_held.ensures.asked.kept.clean k)))
