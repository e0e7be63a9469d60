use Rattle.std.proofs.Common.{◌≡◌, ◌∙◌, [], ◌∷◌, sym}
use Rattle.std.specs.Prelude.{decimal}
use Rattle.pw_report.specs.Exports.{record_fields}
use Rattle.pw_report.specs.Layout.{instant_text}
use Rattle.pw_report.specs.Names.{account_name}
use Rattle.pw_report.proofs.Fields.{fields-are}
use Rattle.pw_report.proofs.records.put_fields.Goals as goal

pub returns-in-Assignment-Assignment-clause-text : goal.returns-in-Assignment-Assignment-clause-text
returns-in-Assignment-Assignment-clause-text c = λ before h.
    let a = c.in-Assignment-Assignment in
    fields-are _ _ before _ _ (sym (λ i. record_fields c.args.office.now (a.is-0 i) (a.is-1 i))) (c.put_assignment.ensures.text before [] h)

pub returns-in-TopUp-TopUp-clause-text : goal.returns-in-TopUp-TopUp-clause-text
returns-in-TopUp-TopUp-clause-text c = λ before h.
    let t = c.in-TopUp-TopUp in
    let account : c.account_name.result.now ≡ account_name c.args.office.now t.account.0 = c.account_name.ensures in
    fields-are _ _ before _ _ ((λ i. t.reference ∷ account i ∷ decimal t.cents ∷ instant_text t.instant ∷ []) ∙ sym (λ i. record_fields c.args.office.now (t.is-0 i) (t.is-1 i))) (c.put_topup.ensures.text before [] h)
