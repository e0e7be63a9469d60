use Rattle.std.proofs.Common.{◌≡◌, ◌∙◌, [], ◌∷◌, ◌++◌}
use Rattle.std.specs.Prelude.{decimal}
use Rattle.pw_report.specs.Layout.{instant_text}
use Rattle.pw_report.proofs.Fields.{fields-are, four-more}
use Rattle.pw_report.proofs.records.put_topup.Goals as goal

pub returns-clause-text : goal.returns-clause-text
returns-clause-text c = λ before fields h.
    let all = c.put_field-4.ensures.text before _ (c.in_ok-put_field-3.ensures.text before _ (c.in_ok-put_field-2.ensures.text before _ (c.in_ok-put_field.ensures.text before fields h))) in
    let reference : c.bytes.result.now ≡ c.args.reference.now = c.bytes.ensures.bytes in
    let cents : c.as_bytes.result.now ≡ decimal c.args.cents = c.as_bytes.ensures.value ∙ c.format.ensures.text in
    let instant : c.instant_text.result ≡ instant_text c.args.instant = c.instant_text.ensures in
    fields-are _ _ before _ _ (four-more fields _ _ _ _ ∙ (λ i. fields ++ (reference i ∷ c.args.account.now ∷ cents i ∷ instant i ∷ []))) all
