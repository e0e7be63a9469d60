use Rattle.std.proofs.Common.{◌+◌, ℕ, Option, sym, subst, arith}
use Rattle.pw_carrying.specs.inner.Latest.{IsLastOf}
use Rattle.pw_book.proofs.Questions.{question-none, question-then, question-told}
use Rattle.pw_carrying.proofs.Latest.{IsReadBelow, register-step, registers-all, registers-none}
use Rattle.pw_carrying.proofs.readings.last_of_meter.Goals as goal

pub loop-register-init : goal.loop-register-init
loop-register-init g c = record { last = λ k. registers-none _ _; question = question-none g.S.Shelf g.met.S.Shelf.same_yet _ _ c.requires.open_yet }

pub loop-register-preserved : goal.loop-register-preserved
loop-register-preserved g c =
    let was = c.loop-register.invariant in
    let content = (g.S.Shelf.state c.args.book.now.shelf).content in
    record {
      last = λ k.
          let before = c.in_ok-here.ensures.question.asked.kept.clean k in
          let L : Option ℕ → Type 0 = λ last. IsLastOf (IsReadBelow content.records c.args.meter.0 (c.loop-register.register-index + 1)) last in
          subst L (sym c.later-last.ensures)
          (register-step content _ c.args.meter.0 c.loop-register.register-index _ c.loop-register.last c.in_ok-here.here (was.question.asked.content before) c.loop-register-test.true (was.last before) (c.in_ok-here.ensures.last k));
      question = question-told g.S.Shelf c.in_ok-here.here c.later-last.result _ _ (question-then g.S.Shelf g.met.S.Shelf.same_then c.loop-register.last _ _ _ _ was.question c.in_ok-here.ensures.question);
    }

pub returns-clause-last : goal.returns-clause-last
returns-clause-last g c = λ k.
    let least = c.loop-register-test.false in
    registers-all (g.S.Shelf.state c.args.book.now.shelf).content.records c.args.meter.0 c.loop-register.register-index c.loop-register.last (omega (arith, least)) (c.loop-register.invariant.last k)
