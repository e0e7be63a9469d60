use Rattle.std.proofs.Common.{◌≡◌, ◌∙◌, ◌+◌, [], ◌∷◌, ap}
use Rattle.std.specs.Prelude.{decimal}
use Rattle.pw_tariff.specs.Ids.{direction_name}
use Rattle.pw_report.specs.DaysAndWhy.{day_nano, day_wh}
use Rattle.pw_report.specs.Months.{date_text}
use Rattle.pw_report.specs.Names.{band_name}
use Rattle.pw_report.specs.inner.Told.{day_energies}
use Rattle.pw_report.proofs.Fields.{row-of}
use Rattle.pw_report.proofs.days.put_direction.Goals as goal

pub returns-clause-text : goal.returns-clause-text
returns-clause-text c = λ before h.
    let file = c.args.told.now.office.now in
    let each = day_energies c.args.told.now.energies.now in
    let all = c.end.ensures.text before _ (c.in_ok-put_field-5.ensures.text before _ (c.in_ok-put_field-4.ensures.text before _ (c.in_ok-put_field-3.ensures.text before _ (c.in_ok-put_field-2.ensures.text before _ (c.in_ok-put_field.ensures.text before [] h))))) in
    let day : c.date_text.result ≡ date_text c.args.told.now.month (c.args.day + 1) = c.date_text.ensures in
    let band : c.band_letter.result ∷ [] ≡ band_name file c.args.band.0 = c.band_letter.ensures in
    let direction : c.as_bytes.result.now ≡ direction_name c.args.direction = c.as_bytes.ensures.value ∙ c.name.ensures in
    let wh : c.as_bytes-2.result.now ≡ decimal (day_wh file each c.args.day c.args.band.0 c.args.direction) =
    c.as_bytes-2.ensures.value ∙ c.format.ensures.text ∙ ap decimal c.day_wh-wh.ensures in
    let nano : c.as_bytes-3.result.now ≡ decimal (day_nano file each c.args.day c.args.band.0 c.args.direction) =
    c.as_bytes-3.ensures.value ∙ c.format-2.ensures.text ∙ ap decimal c.day_nano-nano.ensures in
    row-of _ _ _ _ _ (λ i. day i ∷ band i ∷ direction i ∷ wh i ∷ nano i ∷ []) all
