use Rattle.std.proofs.Common.{◌∙◌}
use Rattle.pw_model.specs.declared.records.TotalKey.TheVariants.{TopUps}
use Rattle.pw_book.proofs.book.Book.topped_up.Goals as goal

pub returns-clause-topped_up : goal.returns-clause-topped_up
returns-clause-topped_up g c = λ k.
    c.in_ok-total_held.ensures.total k ∙ (c.args.self.now.truth c.in_ok-still_open.ensures (c.total_held.ensures.asked.kept.clean k)).totals (TopUps c.args.account)
