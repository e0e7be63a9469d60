use Rattle.std.proofs.Common.{Ok}
use Rattle.pw_book.specs.Questions.{IsQuestion}
use Rattle.pw_carrying.specs.inner.Latest.{IsLastOf}
use Rattle.pw_carrying.proofs.Latest.{IsReadOfMeters}
use Rattle.pw_carrying.proofs.readings.last_reading.Given as goal

abbrev pub invariant-loop-meter : goal.invariant-loop-meter
invariant-loop-meter g l = record {
  last : g.S.Shelf.clean l.book.shelf → IsLastOf (IsReadOfMeters (g.S.Shelf.state l.fn.book.shelf).content.records l.meter) l.last;
  question : IsQuestion g.S.Shelf (Ok l.last) l.fn.book l.book;
}
