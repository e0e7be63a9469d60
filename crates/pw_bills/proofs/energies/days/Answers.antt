use Rattle.std.proofs.Common.{arith}
use Rattle.pw_parts.specs.declared.changes.Side.TheVariants.{Gains}
use Rattle.pw_bills.specs.inner.Gathering.{Pass, pass_of}
use Rattle.pw_book.proofs.Questions.{question-told}
use Rattle.pw_bills.proofs.Reading.{points-enough}
use Rattle.pw_bills.proofs.Single.{energies-gathered}
use Rattle.pw_bills.proofs.energies.days.Goals as goal

pub gather-requires-clause-few : goal.gather-requires-clause-few
gather-requires-clause-few g c = λ t. (let z = c.new-changes.ensures Gains t in omega (arith, z))

pub returns-clause-energies : goal.returns-clause-energies
returns-clause-energies g c = λ k.
    energies-gathered (pass_of c.args.book.now.office (g.S.Shelf.state c.args.book.now.shelf).content c.args.account c.args.begins.now c.args.end) _ _ c.requires (λ t. c.new-changes.ensures Gains t) (c.in_ok-gather.ensures.gathered k)

pub returns-in_err-gather-clause-cost : goal.returns-in_err-gather-clause-cost
returns-in_err-gather-clause-cost g c = λ k most h.
    let q : Pass = pass_of c.args.book.now.office (g.S.Shelf.state c.args.book.now.shelf).content c.args.account c.args.begins.now c.args.end in
    c.gather.ensures.cost k most (λ m l. points-enough q m (most m) c.args.book.now.sound (h m l))

pub returns-clause-cost : goal.returns-clause-cost
returns-clause-cost g c = λ k most h.
    let q : Pass = pass_of c.args.book.now.office (g.S.Shelf.state c.args.book.now.shelf).content c.args.account c.args.begins.now c.args.end in
    c.gather.ensures.cost k most (λ m l. points-enough q m (most m) c.args.book.now.sound (h m l))

pub returns-clause-question : goal.returns-clause-question
returns-clause-question g c = question-told g.S.Shelf tt _ _ _ c.in_ok-gather.ensures.question
