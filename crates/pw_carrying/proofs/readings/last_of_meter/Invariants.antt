use Rattle.std.proofs.Common.{Ok}
use Rattle.pw_book.specs.Questions.{IsQuestion}
use Rattle.pw_carrying.specs.inner.Latest.{IsLastOf}
use Rattle.pw_carrying.proofs.Latest.{IsReadBelow}
use Rattle.pw_carrying.proofs.readings.last_of_meter.Given as goal

abbrev pub invariant-loop-register : goal.invariant-loop-register
invariant-loop-register g l = record {
  last : g.S.Shelf.clean l.book.shelf → IsLastOf (IsReadBelow (g.S.Shelf.state l.fn.book.shelf).content.records l.meter.0 l.register-index) l.last;
  question : IsQuestion g.S.Shelf (Ok l.last) l.fn.book l.book;
}
