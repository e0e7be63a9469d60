use Rattle.std.proofs.Common.{◌≡◌, ◌∙◌, ℕ, ap, arith, length, rules}
use Rattle.std.proofs.lemmas.Result.{IfOk-weaker}
use Rattle.pw_tariff.specs.Office.{OfficeFile}
use Rattle.pw_model.specs.Shelf.{ShelfContent}
use Rattle.pw_report.specs.DaysAndWhy.{days_text}
use Rattle.pw_report.specs.inner.Told.{day_energies}
use Rattle.pw_report.proofs.Asking.{asked-once, asked-then}
use Rattle.pw_report.proofs.MonthDays.{days-stretch}
use Rattle.pw_report.proofs.MonthTexts.{days-same}
use Rattle.pw_report.proofs.days.days_page.Goals as goal

pub days-requires : goal.days-requires
days-requires g c =
    let are = c.in_ok-begins.ensures.days c.span_of-end.result.0 c.span_of-end.result.1 c.span_of-end.ensures in
    rw c.deref.ensures.value (days-stretch c.args.month c.in_ok-begins.begins.items c.span_of-end.result.1 c.requires c.in_ok-begins.ensures.few are)

pub days_text-requires-clause-count : goal.days_text-requires-clause-count
days_text-requires-clause-count g c = let few = c.in_ok-begins.ensures.few in omega (arith, few, c.len.ensures)

pub returns-clause-text : goal.returns-clause-text
returns-clause-text g c = λ k.
    let file = c.args.book.now.office in
    let records = (g.S.Shelf.state c.args.book.now.shelf).content.records in
    let none = c.in_ok-still_open.ensures.report.asked in
    let one = asked-once _ _ _ _ c.in_ok-energies.ensures.question in
    let both = asked-then _ g.met.S.Shelf.same_then _ _ _ _ none one in
    let before = one.kept.clean k in
    let same = ap (λ (d : ShelfContent). d.records) (none.content before) in
    let named : c.office.result.now ≡ file = c.office.ensures ∙ both.office in
    let are = c.in_ok-begins.ensures.days c.span_of-end.result.0 c.span_of-end.result.1 c.span_of-end.ensures in
    let count : c.len.result ≡ length c.in_ok-begins.begins.items = omega (arith, c.len.ensures, c.in_ok-begins.begins.ok.0) in
    let tells = rw (none.office, same, c.deref.ensures.value) at c.in_ok-energies.ensures.energies k in
    IfOk-weaker c.days_text.result _ _ (λ text e. (
      c.in_ok-begins.begins.items,
      c.span_of-end.result.1,
      are,
      e
          ∙ ap (λ (n : ℕ). days_text c.office.result.now c.args.month (day_energies c.in_ok-energies.energies) n) count
          ∙ ap (λ (o : OfficeFile). days_text o c.args.month (day_energies c.in_ok-energies.energies) (length c.in_ok-begins.begins.items)) named
          ∙ days-same file records c.args.account c.args.month c.in_ok-begins.begins.items c.span_of-end.result.1 c.in_ok-energies.energies tells,
    )) c.days_text.ensures.text

pub returns-clause-report : goal.returns-clause-report
returns-clause-report g c =
    let store = g.met.S.Shelf.same_then _ _ _ c.still_open.ensures.report.asked.kept.store c.days.ensures.question.asked.kept.store in
    search rules
