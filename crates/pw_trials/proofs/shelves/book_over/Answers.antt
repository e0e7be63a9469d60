use Rattle.std.proofs.Common.{sym, subst}
use Rattle.pw_tariff.specs.Office.{office_of}
use Rattle.pw_model.specs.Shelf.{IsTrueContent}
use Rattle.pw_model.proofs.Truth.{empty-true}
use Rattle.pw_trials.proofs.shelves.book_over.Goals as goal

pub new-requires-clause-truth : goal.new-requires-clause-truth
new-requires-clause-truth g c = λ k. subst (IsTrueContent (office_of c.args.office)) (sym c.requires.empty) (empty-true (office_of c.args.office))
