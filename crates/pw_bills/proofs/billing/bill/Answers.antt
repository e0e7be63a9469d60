use Rattle.std.proofs.Common.{◌∙◌, to_z, of_z, FitsSigned, sym, subst}
use Rattle.std.specs.Int.{w128}
use Rattle.std.proofs.lemmas.Int.{to_z-of_z}
use Rattle.pw_tariff.specs.Office.{office_of}
use Rattle.pw_model.proofs.PlainEnergy.{balance-fits}
use Rattle.pw_model.proofs.SoundOffice.{sound-office}
use Rattle.pw_bills.proofs.BillAsked.{bill-read, bill-there, top-ups_there, two-read}
use Rattle.pw_book.proofs.Questions.{answered-open, question-then, question-told}
use Rattle.pw_bills.proofs.billing.bill.Goals as goal

pub returns-in_err-rows-clause-cost : goal.returns-in_err-rows-clause-cost
returns-in_err-rows-clause-cost g c = λ k most h.
    let first = c.top_ups_between.ensures.question.asked.kept.clean k in
    let same = c.balance.ensures.question.asked.content first in
    two-read _ h.top_ups _ most _ _ _ h.enough c.balance.ensures.cost (c.top_ups_between.ensures.cost k h.top_ups (top-ups_there _ _ c.args.account c.args.from _ h.top_ups same h.few))

pub returns-in_err-energies-clause-cost : goal.returns-in_err-energies-clause-cost
returns-in_err-energies-clause-cost g c = λ k most h.
    bill-read g.S.Shelf _ _ c.args.book.now _ _ c.args.account c.args.from most _ h (c.flowed.ensures.question.asked.kept.clean k) c.in_ok-balance.ensures.question c.in_ok-rows.ensures.question
    c.balance.ensures.cost c.top_ups_between.ensures.cost (c.flowed.ensures.cost k)

pub returns-clause-cost : goal.returns-clause-cost
returns-clause-cost g c = λ k most h.
    bill-read g.S.Shelf _ _ c.args.book.now _ _ c.args.account c.args.from most _ h (c.flowed.ensures.question.asked.kept.clean k) c.in_ok-balance.ensures.question c.in_ok-rows.ensures.question
    c.balance.ensures.cost c.top_ups_between.ensures.cost (c.flowed.ensures.cost k)

pub returns-clause-bill : goal.returns-clause-bill
returns-clause-bill g c = λ k.
    let second = c.flowed.ensures.question.asked.kept.clean k in
    let first = c.top_ups_between.ensures.question.asked.kept.clean second in
    let before = c.balance.ensures.question.asked.kept.clean first in
    let same = c.balance.ensures.question.asked.content first in
    let later = c.top_ups_between.ensures.question.asked.content second ∙ same in
    let office = c.top_ups_between.ensures.question.office ∙ c.balance.ensures.question.office in
    let opened = answered-open g.S.Shelf c.in_ok-balance.balance c.args.book.now c.balance.new.self c.in_ok-balance.ensures.question in
    let book = c.args.book.now in
    let records = (g.S.Shelf.state book.shelf).content.records in
    let nano = c.in_ok-balance.ensures.balance first in
    let fits : FitsSigned w128 c.in_ok-balance.balance = subst (FitsSigned w128) (sym nano) (balance-fits (office_of book.office) records c.args.account.0 (sound-office book.office book.sound) (book.of_office opened before) (book.few opened before)) in
    bill-there c.args.book.now.office c.top_ups_between.new.book.office c.flowed.new.book.office (g.S.Shelf.state c.args.book.now.shelf).content _ _ c.args.account c.args.from c.args.until
    (to_z w128 (of_z w128 c.in_ok-balance.balance)) c.in_ok-rows.rows.items c.deref.result.now c.in_ok-energies.energies c.bill_from.result
    office (c.flowed.ensures.question.office ∙ office) same later c.deref.ensures.value
    (book.of_office opened before) (book.few opened before) (to_z-of_z w128 c.in_ok-balance.balance fits ∙ nano) (c.in_ok-rows.ensures.top_ups second) (c.in_ok-energies.ensures.flows k) c.bill_from.ensures

pub returns-clause-question : goal.returns-clause-question
returns-clause-question g c =
    let later = question-then g.S.Shelf g.met.S.Shelf.same_then c.in_ok-rows.rows _ _ _ _ c.in_ok-rows.ensures.question (question-told g.S.Shelf c.in_ok-energies.energies c.bill_from.result _ _ c.in_ok-energies.ensures.question) in
    question-then g.S.Shelf g.met.S.Shelf.same_then c.in_ok-balance.balance _ _ _ _ c.in_ok-balance.ensures.question later
