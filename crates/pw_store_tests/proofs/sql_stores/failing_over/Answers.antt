use Rattle.std.specs.Prelude.{◌≡◌, ◌≤◌, None, length}
use Rattle.std.proofs.Common.{sym, subst}
use Rattle.pw_tariff.specs.Office.{office_of}
use Rattle.pw_model.specs.Office.{AllOfOffice, most_records}
use Rattle.pw_model.specs.Shelf.{IsTrueContent}
use Rattle.pw_shelf.specs.State.{State}
use Rattle.pw_store_tests.proofs.sql_stores.failing_over.Goals as goal

pub book_over-requires-clause-few : goal.book_over-requires-clause-few
book_over-requires-clause-few g c = λ clean.
    subst (λ (s : State). length s.content.records ≤ most_records) (sym c.failing-failing.ensures.state) (c.requires.few (c.failing-failing.ensures.clean.0 clean))

pub book_over-requires-clause-of_office : goal.book_over-requires-clause-of_office
book_over-requires-clause-of_office g c = λ clean.
    subst (λ (s : State). AllOfOffice (office_of c.args.office) s.content.records) (sym c.failing-failing.ensures.state) (c.requires.of_office (c.failing-failing.ensures.clean.0 clean))

pub book_over-requires-clause-truth : goal.book_over-requires-clause-truth
book_over-requires-clause-truth g c = λ clean.
    subst (λ (s : State). IsTrueContent (office_of c.args.office) s.content) (sym c.failing-failing.ensures.state) (c.requires.truth (c.failing-failing.ensures.clean.0 clean))
