use Rattle.pw_tariff.specs.Office.{office_of}
use Rattle.pw_book.proofs.Fallen.{tells-points}
use Rattle.pw_book.proofs.book.Book.readings.Goals as goal

pub rows_held-requires-clause-points : goal.rows_held-requires-clause-points
rows_held-requires-clause-points g c = λ k.
    let book = c.args.self.now in
    tells-points (office_of book.office) _ (book.of_office c.in_ok-still_open.ensures k) (book.truth c.in_ok-still_open.ensures k)
