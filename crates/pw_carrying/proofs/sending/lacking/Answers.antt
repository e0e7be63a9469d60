use Rattle.std.proofs.Common.{rules}
use Rattle.pw_carrying.proofs.Missing.{are-lacking}
use Rattle.pw_carrying.proofs.sending.lacking.Goals as goal

pub returns-clause-lacking : goal.returns-clause-lacking
returns-clause-lacking g c = λ k.
    are-lacking (g.S.Shelf.state c.args.book.now.shelf).content.records c.args.entries.now c.in_ok-found.found.items (c.in_ok-found.ensures.fresh k)

pub not_held-requires : goal.not_held-requires
not_held-requires g c = search rules depth 0 fits 100
