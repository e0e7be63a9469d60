use Rattle.std.proofs.Common.{◌≡◌, ◌∙◌, ◌-◌, ap, arith, rules}
use Rattle.pw_tariff.specs.Office.{OfficeFile, office_of, period_at}
use Rattle.pw_model.specs.Lists.{record_count}
use Rattle.pw_model.specs.Shelf.{ShelfContent}
use Rattle.pw_months.specs.Bills.{bill_of}
use Rattle.pw_report.specs.Bills.{bill_text}
use Rattle.pw_report.specs.inner.Told.{bill_told}
use Rattle.pw_report.proofs.Asking.{asked-once, asked-then}
use Rattle.pw_report.proofs.MonthTexts.{bill-same}
use Rattle.pw_report.proofs.bills.bill_page.Goals as goal

pub returns-clause-text : goal.returns-clause-text
returns-clause-text g c = λ k.
    let file = c.args.book.now.office in
    let records = (g.S.Shelf.state c.args.book.now.shelf).content.records in
    let from = c.span_of-from.result.0 in
    let until = c.span_of-from.result.1 in
    let one = asked-once _ _ _ _ c.in_ok-figures.ensures.question in
    let two = asked-once _ _ _ _ c.in_ok-read.ensures.question in
    let three = asked-once _ _ _ _ c.in_ok-records.ensures.question in
    let both = asked-then _ g.met.S.Shelf.same_then _ _ _ _ one two in
    let all = asked-then _ g.met.S.Shelf.same_then _ _ _ _ both three in
    let second = three.kept.clean k in
    let first = two.kept.clean second in
    let asked_first = ap (λ (d : ShelfContent). d.records) (one.content first) in
    let asked_second = ap (λ (d : ShelfContent). d.records) (both.content second) in
    let named : c.office-office.result.now ≡ file = c.office-office.ensures ∙ all.office in
    let behind : c.last_before-last.result ≡ until - 1 = (let e = c.last_before-last.ensures in omega (arith, e)) in
    let begun : c.period.result.0 ≡ period_at file from = c.period.ensures.period ∙ ap (λ (o : OfficeFile). period_at o from) named in
    let ended : c.period-2.result.0 ≡ period_at file (until - 1) = c.period-2.ensures.period ∙ (λ i. period_at (named i) (behind i)) in
    let told : bill_told c.office-office.result.now c.in_ok-figures.figures ≡ bill_of (office_of file) records c.args.account.0 from until =
    ap (λ (o : OfficeFile). bill_told o c.in_ok-figures.figures) named ∙ bill-same file records c.args.account from until c.in_ok-figures.figures (c.in_ok-figures.ensures.bill first) in
    let count : c.in_ok-records.records ≡ record_count records = c.in_ok-records.ensures.count k ∙ ap record_count asked_second in (
      from,
      until,
      c.in_ok-read.read.items,
      c.span_of-from.ensures,
      rw (one.office, asked_first) at c.in_ok-read.ensures.readings second,
      c.in_ok-text.ensures
          ∙ (λ i. bill_text (named i) c.args.account.0 c.args.month (begun i) (ended i) (told i) (c.deref.ensures.value i) (count i)),
    )

pub returns-in_err-read-clause-report : goal.returns-in_err-read-clause-report
returns-in_err-read-clause-report g c =
    let store = g.met.S.Shelf.same_then _ _ _ c.bill.ensures.question.asked.kept.store c.read_up_to.ensures.question.asked.kept.store in
    search rules

pub returns-in_err-records-clause-report : goal.returns-in_err-records-clause-report
returns-in_err-records-clause-report g c =
    let two = g.met.S.Shelf.same_then _ _ _ c.bill.ensures.question.asked.kept.store c.read_up_to.ensures.question.asked.kept.store in
    let store = g.met.S.Shelf.same_then _ _ _ two c.count.ensures.question.asked.kept.store in
    search rules

pub returns-in_err-text-clause-report : goal.returns-in_err-text-clause-report
returns-in_err-text-clause-report g c =
    let two = g.met.S.Shelf.same_then _ _ _ c.bill.ensures.question.asked.kept.store c.read_up_to.ensures.question.asked.kept.store in
    let store = g.met.S.Shelf.same_then _ _ _ two c.count.ensures.question.asked.kept.store in
    search rules

pub returns-clause-report : goal.returns-clause-report
returns-clause-report g c =
    let two = g.met.S.Shelf.same_then _ _ _ c.bill.ensures.question.asked.kept.store c.read_up_to.ensures.question.asked.kept.store in
    let store = g.met.S.Shelf.same_then _ _ _ two c.count.ensures.question.asked.kept.store in
    search rules
