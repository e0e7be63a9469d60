use Rattle.std.proofs.Common.{◌≡◌, ◌+◌, ℕ, Option, ap, length, sym, subst, arith}
use Rattle.pw_tariff.specs.Office.{OfficeFile, office_of}
use Rattle.pw_model.specs.Shelf.{ShelfContent}
use Rattle.pw_carrying.specs.inner.Latest.{IsLastOf, IsReadOfMeter}
use Rattle.pw_book.proofs.Questions.{question-then, question-told}
use Rattle.pw_carrying.proofs.Latest.{IsReadOfMeters, meter-next, meters-all}
use Rattle.pw_carrying.proofs.readings.last_reading.Goals as goal

pub loop-meter-preserved : goal.loop-meter-preserved
loop-meter-preserved g c =
    let was = c.loop-meter.invariant in
    let records = (g.S.Shelf.state c.args.book.now.shelf).content.records in
    record {
      last = λ k.
          let before = c.in_ok-here.ensures.question.asked.kept.clean k in
          let O : ShelfContent → Type 0 = λ d. IsLastOf (IsReadOfMeter d.records c.loop-meter.meter) c.in_ok-here.here in
          let one = subst O (was.question.asked.content before) (c.in_ok-here.ensures.last k) in
          let L : Option ℕ → Type 0 = λ last. IsLastOf (IsReadOfMeters records (c.loop-meter.meter + 1)) last in
          subst L (sym c.later-last.ensures) (meter-next records c.loop-meter.meter c.loop-meter.last c.in_ok-here.here (was.last before) one);
      question = question-told g.S.Shelf c.in_ok-here.here c.later-last.result _ _ (question-then g.S.Shelf g.met.S.Shelf.same_then c.loop-meter.last _ _ _ _ was.question c.in_ok-here.ensures.question);
    }

pub returns-clause-last : goal.returns-clause-last
returns-clause-last g c = λ k.
    let records = (g.S.Shelf.state c.args.book.now.shelf).content.records in
    let start = c.loop-meter.invariant.question.asked.kept.clean k in
    let same = ap (λ (o : OfficeFile). length o.meters) c.office.ensures in
    let all : c.loop-meter.meter ≡ length c.args.book.now.office.meters = omega (arith, same, c.meters-meter-end.ensures.count, c.loop-meter.auto.meter-end, c.loop-meter-test.false) in
    let R : ℕ → Type 0 = λ n. IsLastOf (IsReadOfMeters records n) c.loop-meter.last in
    meters-all (office_of c.args.book.now.office) records c.loop-meter.last (c.args.book.now.of_office c.in_ok-still_open.ensures start) (subst R all (c.loop-meter.invariant.last k))
