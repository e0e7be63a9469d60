use Rattle.std.proofs.Common.{◌≡◌, ◌∙◌, ap, arith, length, rules, codes, FitsSigned}
use Rattle.std.specs.Int.{w128}
use Rattle.std.proofs.lemmas.Int.{to_z-of_z}
use Rattle.pw_tariff.specs.Office.{OfficeFile}
use Rattle.pw_model.specs.Shelf.{ShelfContent}
use Rattle.pw_report.specs.Tables.{account_line, accounts_text, balance_line}
use Rattle.pw_report.proofs.Asking.{asked-once, asked-then}
use Rattle.pw_report.proofs.Lines.{account-line}
use Rattle.pw_report.proofs.Listed.{text-begun, text-next, text-whole}
use Rattle.pw_report.proofs.accounts.accounts_table.Goals as goal

pub loop-account-init : goal.loop-account-init
loop-account-init g c = record {
  text = λ k. text-begun _ _ _ _ c.new-text.ensures.items c.in_ok-put_account.ensures;
  asked = c.in_ok-still_open.ensures.report.asked;
}

pub loop-account-preserved : goal.loop-account-preserved
loop-account-preserved g c =
    let one = asked-once _ _ _ _ c.in_ok-nano.ensures.question in
    let both = asked-then _ g.met.S.Shelf.same_then _ _ _ _ c.loop-account.invariant.asked one in
    record {
      text = λ k.
          let before = one.kept.clean k in
          let fits : FitsSigned w128 c.in_ok-nano.nano = search rules in
          text-next (account_line (codes "account") (codes "balance EUR")) _ _ _ (balance_line c.args.book.now.office (g.S.Shelf.state c.args.book.now.shelf).content.records) _ (c.loop-account.invariant.text before) c.in_ok-put_account-2.ensures
          (account-line _ _ _ _ _ _ _ _ _ _ c.loop-account.invariant.asked.office (c.office-in-loop-account.ensures ∙ both.office)
          (ap (λ (d : ShelfContent). d.records) (c.loop-account.invariant.asked.content before))
          (c.in_ok-nano.ensures.balance k) (to_z-of_z w128 c.in_ok-nano.nano fits) (c.deref.ensures.value ∙ c.in_ok-balance.ensures) c.account_name.ensures);
      asked = both;
    }

pub returns-clause-text : goal.returns-clause-text
unfolding accounts_text
returns-clause-text g c = λ k.
    let same = ap (λ (o : OfficeFile). length o.accounts) (c.office.ensures ∙ c.in_ok-still_open.ensures.report.asked.office) in
    let all : c.loop-account.account ≡ length c.args.book.now.office.accounts = omega (arith, same, c.accounts-account-end.ensures.count) in
    text-whole (account_line (codes "account") (codes "balance EUR")) _ (balance_line c.args.book.now.office (g.S.Shelf.state c.args.book.now.shelf).content.records) _ _ (c.loop-account.invariant.text k) all

pub returns-in_err-put_account-2-clause-report : goal.returns-in_err-put_account-2-clause-report
returns-in_err-put_account-2-clause-report g c =
    let store = g.met.S.Shelf.same_then _ _ _ c.loop-account.invariant.asked.kept.store c.balance.ensures.question.asked.kept.store in
    search rules
