use Rattle.std.proofs.Common.{◌≡◌, ◌∙◌, [], ◌∷◌, ap, sym}
use Rattle.std.specs.Prelude.{codes, decimal}
use Rattle.pw_obis.specs.Registers.{register_name}
use Rattle.pw_report.specs.Exports.{withdrawal_fields}
use Rattle.pw_report.specs.Layout.{instant_text}
use Rattle.pw_report.specs.Names.{account_name, meter_name}
use Rattle.pw_report.proofs.Fields.{fields-are}
use Rattle.pw_report.proofs.records.put_withdrawal.Goals as goal

pub returns-in_ok-put_field-in-Reading-clause-text : goal.returns-in_ok-put_field-in-Reading-clause-text
returns-in_ok-put_field-in-Reading-clause-text c = λ before h.
    let r = c.in-Reading in
    let all = c.put_reading.ensures.text before _ (c.in_ok-put_field-in-Reading.ensures.text before [] h) in
    let meter : c.meter_name.result.now ≡ meter_name c.args.office.now r.meter.0 = c.meter_name.ensures in
    fields-are _ _ before _ _ ((λ i. codes "reading" ∷ meter i ∷ register_name r.register ∷ instant_text r.instant ∷ decimal r.wh ∷ []) ∙ ap (withdrawal_fields c.args.office.now) (sym r.is)) all

pub returns-in_ok-put_field-in-Assignment-clause-text : goal.returns-in_ok-put_field-in-Assignment-clause-text
returns-in_ok-put_field-in-Assignment-clause-text c = λ before h.
    let all = c.put_assignment.ensures.text before _ (c.in_ok-put_field-in-Assignment.ensures.text before [] h) in
    fields-are _ _ before _ _ (ap (withdrawal_fields c.args.office.now) (sym c.in-Assignment.is)) all

pub returns-in_ok-put_field-in-TopUp-clause-text : goal.returns-in_ok-put_field-in-TopUp-clause-text
returns-in_ok-put_field-in-TopUp-clause-text c = λ before h.
    let t = c.in-TopUp in
    let all = c.put_topup.ensures.text before _ (c.in_ok-put_field-in-TopUp.ensures.text before [] h) in
    let account : c.account_name.result.now ≡ account_name c.args.office.now t.account.0 = c.account_name.ensures in
    fields-are _ _ before _ _ ((λ i. codes "topup" ∷ t.reference ∷ account i ∷ decimal t.cents ∷ instant_text t.instant ∷ []) ∙ ap (withdrawal_fields c.args.office.now) (sym t.is)) all
