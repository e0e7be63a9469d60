use Rattle.std.proofs.Common.{[], ◌∷◌}
use Rattle.pw_bills.specs.inner.Gathering.{Pass, pass_of}
use Rattle.pw_bills.proofs.LastRead.{readings-told}
use Rattle.pw_book.proofs.Questions.{question-told}
use Rattle.pw_bills.proofs.Reading.{three-enough}
use Rattle.pw_bills.proofs.Single.{one-stretch}
use Rattle.pw_bills.proofs.readings.read_up_to.Goals as goal

pub gather-requires-clause-stretches : goal.gather-requires-clause-stretches
gather-requires-clause-stretches g c = one-stretch c.args.from c.args.until c.requires.later c.requires.ended

pub returns-clause-readings : goal.returns-clause-readings
returns-clause-readings g c = λ k. readings-told (pass_of c.args.book.now.office (g.S.Shelf.state c.args.book.now.shelf).content c.args.account (c.args.from ∷ []) c.args.until) _ _ c.new-rows.ensures.items (c.in_ok-gather.ensures.gathered k)

pub returns-in_err-gather-clause-cost : goal.returns-in_err-gather-clause-cost
returns-in_err-gather-clause-cost g c = λ k most h.
    let q : Pass = pass_of c.args.book.now.office (g.S.Shelf.state c.args.book.now.shelf).content c.args.account (c.args.from ∷ []) c.args.until in
    c.gather.ensures.cost k most (λ m l. three-enough q m (most m) c.args.book.now.sound (h m l))

pub returns-clause-cost : goal.returns-clause-cost
returns-clause-cost g c = λ k most h.
    let q : Pass = pass_of c.args.book.now.office (g.S.Shelf.state c.args.book.now.shelf).content c.args.account (c.args.from ∷ []) c.args.until in
    c.gather.ensures.cost k most (λ m l. three-enough q m (most m) c.args.book.now.sound (h m l))

pub returns-clause-question : goal.returns-clause-question
returns-clause-question g c = question-told g.S.Shelf tt _ _ _ c.in_ok-gather.ensures.question
