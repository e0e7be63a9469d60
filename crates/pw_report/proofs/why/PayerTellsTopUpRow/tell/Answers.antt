use Rattle.std.proofs.Common.{◌≡◌, [], ◌∷◌}
use Rattle.std.specs.Prelude.{codes, decimal}
use Rattle.pw_report.specs.Layout.{instant_text}
use Rattle.pw_report.specs.Names.{account_name}
use Rattle.pw_report.proofs.Fields.{row-of}
use Rattle.pw_report.proofs.why.PayerTellsTopUpRow.tell.Goals as goal

pub returns-clause-text : goal.returns-clause-text
returns-clause-text c = λ before h.
    let row = c.args.payment.now in
    let all = c.end.ensures.text before _ (c.in_ok-put_topup.ensures.text before _ (c.in_ok-put_field.ensures.text before [] h)) in
    let account : c.account_name.result.now ≡ account_name c.args.self.now.office.now c.args.self.now.account.0 = c.account_name.ensures in
    row-of _ _ _ _ _ (λ i. codes "topup" ∷ row.reference ∷ account i ∷ decimal row.cents ∷ instant_text row.instant ∷ []) all
