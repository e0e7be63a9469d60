use Rattle.std.proofs.Common.{◌≡◌, ◌∙◌, ◌*◌, [], ◌∷◌, ◌++◌, ap}
use Rattle.std.specs.Prelude.{decimal}
use Rattle.pw_tariff.specs.Office.{price_at}
use Rattle.pw_report.specs.Layout.{instant_text}
use Rattle.pw_report.specs.Names.{band_name, period_name}
use Rattle.pw_report.proofs.Fields.{fields-are, six-more}
use Rattle.pw_report.proofs.why.put_given.Goals as goal

pub returns-clause-text : goal.returns-clause-text
returns-clause-text c = λ before fields h.
    let p = c.args.piece.now in
    let file = c.args.office.now in
    let all = c.put_field-4.ensures.text before _ (c.in_ok-put_field-3.ensures.text before _ (c.in_ok-put_band.ensures.text before _ (c.in_ok-put_period.ensures.text before _ (c.in_ok-put_field-2.ensures.text before _ (c.in_ok-put_field.ensures.text before fields h))))) in
    let begin : c.instant_text.result ≡ instant_text p.begin = c.instant_text.ensures in
    let until : c.instant_text-2.result ≡ instant_text p.until = c.instant_text-2.ensures in
    let wh : c.as_bytes.result.now ≡ decimal p.wh = c.as_bytes.ensures.value ∙ c.format.ensures.text in
    let price : c.price_of.result ≡ price_at file p.period.0 p.band.0 c.args.direction * p.wh =
    c.price_of.ensures.price ∙ ap (λ n. n * p.wh) c.price_in-price.ensures in
    let nano : c.as_bytes-2.result.now ≡ decimal (price_at file p.period.0 p.band.0 c.args.direction * p.wh) =
    c.as_bytes-2.ensures.value ∙ c.format-2.ensures.text ∙ ap decimal price in
    fields-are _ _ before _ _
    (six-more fields _ _ _ _ _ _ ∙ (λ i. fields ++ (begin i ∷ until i ∷ period_name file p.period.0 ∷ band_name file p.band.0 ∷ wh i ∷ nano i ∷ []))) all
