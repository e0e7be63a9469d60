use Rattle.pw_report.proofs.Moving.{exports-move-books}
use Rattle.pw_report.proofs.laws.exports_move_books.Goals as goal

pub returns : goal.returns
returns c = exports-move-books
