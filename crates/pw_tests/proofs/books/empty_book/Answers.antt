use Rattle.std.specs.Prelude.{length, ◌≤◌}
use Rattle.std.proofs.Common.{sym, subst, rules}
use Rattle.pw_model.specs.Office.{AllOfOffice, most_records}
use Rattle.pw_model.specs.Shelf.{IsTrueContent, ShelfContent, no_content}
use Rattle.pw_model.proofs.Truth.{empty-true}
use Rattle.pw_tariff.specs.Office.{office_of}
use Rattle.pw_tests.proofs.books.empty_book.Goals as goal

pub new-requires-clause-few : goal.new-requires-clause-few
new-requires-clause-few g c = λ k. subst (λ (x : ShelfContent). length x.records ≤ most_records) (sym c.requires.empty) (search rules)

pub new-requires-clause-truth : goal.new-requires-clause-truth
new-requires-clause-truth g c = λ k. subst (IsTrueContent (office_of c.args.office)) (sym c.requires.empty) (empty-true (office_of c.args.office))
