use Rattle.std.proofs.Common.{◌≡◌, ◌∙◌, [], ◌∷◌}
use Rattle.std.specs.Prelude.{decimal}
use Rattle.pw_tariff.specs.Ids.{direction_name}
use Rattle.pw_report.specs.Names.{band_name, owner_name}
use Rattle.pw_report.proofs.Fields.{row-of}
use Rattle.pw_report.proofs.energies.put_energy.Goals as goal

pub returns-clause-text : goal.returns-clause-text
returns-clause-text c = λ before h.
    let all = c.end.ensures.text before _ (c.in_ok-put_field-5.ensures.text before _ (c.in_ok-put_field-4.ensures.text before _ (c.in_ok-put_field-3.ensures.text before _ (c.in_ok-put_field-2.ensures.text before _ (c.in_ok-put_field.ensures.text before [] h))))) in
    let owner : c.owner_name.result.now ≡ owner_name c.args.office.now c.args.owner = c.owner_name.ensures in
    let band : c.band_letter.result ∷ [] ≡ band_name c.args.office.now c.args.band.0 = c.band_letter.ensures in
    let direction : c.as_bytes.result.now ≡ direction_name c.args.direction = c.as_bytes.ensures.value ∙ c.name.ensures in
    let wh : c.as_bytes-2.result.now ≡ decimal c.args.wh = c.as_bytes-2.ensures.value ∙ c.format.ensures.text in
    let nano : c.as_bytes-3.result.now ≡ decimal c.args.nano = c.as_bytes-3.ensures.value ∙ c.format-2.ensures.text in
    row-of _ _ _ _ _ (λ i. owner i ∷ band i ∷ direction i ∷ wh i ∷ nano i ∷ []) all
