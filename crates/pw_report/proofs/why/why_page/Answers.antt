use Rattle.std.proofs.Common.{◌≡◌, ◌∙◌, ap, map, rules}
use Rattle.std.proofs.lemmas.Result.{IfOk-weaker}
use Rattle.pw_tariff.specs.Office.{office_of}
use Rattle.pw_model.specs.Shelf.{ShelfContent}
use Rattle.pw_bills.specs.Why.{row_told}
use Rattle.pw_report.specs.DaysAndWhy.{why_text}
use Rattle.pw_report.proofs.Asking.{asked-once, asked-then}
use Rattle.pw_report.proofs.why.why_page.Goals as goal

pub returns-clause-text : goal.returns-clause-text
returns-clause-text g c = λ k.
    let file = c.args.book.now.office in
    let one = asked-once _ _ _ _ c.in_ok-pieces.ensures.question in
    let two = asked-once _ _ _ _ c.in_ok-payments.ensures.question in
    let both = asked-then _ g.met.S.Shelf.same_then _ _ _ _ one two in
    let before = two.kept.clean k in
    let same = ap (λ (d : ShelfContent). d.records) (one.content before) in
    let named : c.office.result.now ≡ file = c.office.ensures ∙ both.office in
    IfOk-weaker c.why_text.result _ _ (λ text e. (
      c.span_of-from.result.0,
      c.span_of-from.result.1,
      map (row_told (office_of file)) c.in_ok-pieces.pieces.items,
      c.in_ok-payments.payments.items,
      c.span_of-from.ensures,
      (let told = c.in_ok-pieces.ensures.rows before in told.rows),
      rw same at c.in_ok-payments.ensures.top_ups k,
      e
          ∙ (λ i. why_text (named i) c.args.account (map (row_told (office_of (named i))) (c.deref.ensures.value i)) (c.deref-2.ensures.value i)),
    )) c.why_text.ensures.text

pub returns-in_err-payments-clause-report : goal.returns-in_err-payments-clause-report
returns-in_err-payments-clause-report g c =
    let store = g.met.S.Shelf.same_then _ _ _ c.why.ensures.question.asked.kept.store c.top_ups_between.ensures.question.asked.kept.store in
    search rules

pub returns-clause-report : goal.returns-clause-report
returns-clause-report g c =
    let store = g.met.S.Shelf.same_then _ _ _ c.why.ensures.question.asked.kept.store c.top_ups_between.ensures.question.asked.kept.store in
    search rules
