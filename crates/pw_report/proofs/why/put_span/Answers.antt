use Rattle.std.proofs.Common.{◌≡◌, ◌∙◌, [], ◌∷◌, ◌++◌, ap}
use Rattle.std.specs.Prelude.{decimal}
use Rattle.pw_report.specs.Layout.{instant_text}
use Rattle.pw_report.proofs.Fields.{fields-are, four-more}
use Rattle.pw_report.proofs.why.put_span.Goals as goal

pub returns-clause-text : goal.returns-clause-text
returns-clause-text c = λ before fields h.
    let all = c.put_field-4.ensures.text before _ (c.in_ok-put_field-3.ensures.text before _ (c.in_ok-put_field-2.ensures.text before _ (c.in_ok-put_field.ensures.text before fields h))) in
    let span = c.args.span.now in
    let from : c.instant_text.result ≡ instant_text span.from = c.instant_text.ensures in
    let low : c.as_bytes.result.now ≡ decimal span.low = c.as_bytes.ensures.value ∙ c.format.ensures.text ∙ ap decimal c.get.ensures.value in
    let to : c.instant_text-2.result ≡ instant_text span.to = c.instant_text-2.ensures in
    let high : c.as_bytes-2.result.now ≡ decimal span.high = c.as_bytes-2.ensures.value ∙ c.format-2.ensures.text ∙ ap decimal c.get-2.ensures.value in
    fields-are _ _ before _ _ (four-more fields _ _ _ _ ∙ (λ i. fields ++ (from i ∷ low i ∷ to i ∷ high i ∷ []))) all
