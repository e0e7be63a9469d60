use Rattle.std.proofs.Common.{◌≡◌, ◌∙◌, ap, length, rules, FitsSigned}
use Rattle.std.specs.Int.{w128}
use Rattle.std.proofs.lemmas.Int.{to_z-of_z}
use Rattle.pw_tariff.specs.Office.{OfficeFile, office_of}
use Rattle.pw_model.specs.Payments.{balance}
use Rattle.pw_report.specs.Amounts.{balance_text}
use Rattle.pw_report.specs.Layout.{listed_below}
use Rattle.pw_report.specs.Names.{account_name}
use Rattle.pw_report.specs.Tables.{energy_line}
use Rattle.pw_report.proofs.Asking.{asked-once, asked-then}
use Rattle.pw_report.proofs.Parts.{statement-is}
use Rattle.pw_report.proofs.statements.statement.Goals as goal

pub returns-clause-text : goal.returns-clause-text
returns-clause-text g c = λ k.
    let file = c.args.book.now.office in
    let content = (g.S.Shelf.state c.args.book.now.shelf).content in
    let a = c.args.account.0 in
    let one = asked-once _ _ _ _ c.in_ok-cents.ensures.question in
    let two = asked-once _ _ _ _ c.in_ok-nano.ensures.question in
    let both = asked-then _ g.met.S.Shelf.same_then _ _ _ _ one two in
    let last = c.in_ok-put_energies.ensures.report.asked in
    let third = last.kept.clean k in
    let second = two.kept.clean third in
    let fits : FitsSigned w128 c.in_ok-nano.nano = search rules in
    let name : c.account_name.result.now ≡ account_name file a = c.account_name.ensures ∙ ap (λ (o : OfficeFile). account_name o a) (c.office.ensures ∙ both.office) in
    let nano : c.in_ok-nano.nano ≡ balance (office_of file) content.records a =
    c.in_ok-nano.ensures.balance third ∙ (λ i. balance (office_of (one.office i)) (one.content second i).records a) in
    let amount : c.deref.result.now ≡ balance_text (balance (office_of file) content.records a) =
    c.deref.ensures.value ∙ c.in_ok-balance.ensures ∙ ap balance_text (to_z-of_z w128 c.in_ok-nano.nano fits ∙ nano) in
    statement-is file content.records a _ _ _ _ _ _ _ _
    (record {
      name_is = name;
      lines_are = λ i. listed_below (length (both.office i).bands) (energy_line (both.office i) (both.content third i).records a);
      cents_are = c.from.ensures ∙ c.in_ok-cents.ensures.topped_up second;
      amount_is = amount;
    })
    c.new-text.ensures.items c.in_ok-put_head.ensures (c.in_ok-put_energies.ensures.text k) c.in_ok-put_amounts.ensures

pub returns-in_err-put_head-clause-report : goal.returns-in_err-put_head-clause-report
returns-in_err-put_head-clause-report g c =
    let store = g.met.S.Shelf.same_then _ _ _ c.topped_up.ensures.question.asked.kept.store c.balance.ensures.question.asked.kept.store in
    search rules

pub returns-in_err-put_energies-clause-report : goal.returns-in_err-put_energies-clause-report
returns-in_err-put_energies-clause-report g c =
    let two = g.met.S.Shelf.same_then _ _ _ c.topped_up.ensures.question.asked.kept.store c.balance.ensures.question.asked.kept.store in
    let store = g.met.S.Shelf.same_then _ _ _ two c.put_energies.ensures.report.asked.kept.store in
    search rules

pub returns-in_err-put_amounts-clause-report : goal.returns-in_err-put_amounts-clause-report
returns-in_err-put_amounts-clause-report g c =
    let two = g.met.S.Shelf.same_then _ _ _ c.topped_up.ensures.question.asked.kept.store c.balance.ensures.question.asked.kept.store in
    let store = g.met.S.Shelf.same_then _ _ _ two c.put_energies.ensures.report.asked.kept.store in
    search rules

pub returns-clause-report : goal.returns-clause-report
returns-clause-report g c =
    let two = g.met.S.Shelf.same_then _ _ _ c.topped_up.ensures.question.asked.kept.store c.balance.ensures.question.asked.kept.store in
    let store = g.met.S.Shelf.same_then _ _ _ two c.put_energies.ensures.report.asked.kept.store in
    search rules
