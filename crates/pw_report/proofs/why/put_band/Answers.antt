use Rattle.std.proofs.Common.{◌++◌, [], ◌∷◌, arith, sym}
use Rattle.pw_report.proofs.Fields.{fields-are}
use Rattle.pw_report.proofs.Periods.{no-letter}
use Rattle.pw_report.proofs.why.put_band.Goals as goal

pub returns-then-band-bands-clause-text : goal.returns-then-band-bands-clause-text
returns-then-band-bands-clause-text c = λ before fields h.
    fields-are _ _ before _ _ (λ i. fields ++ (c.band_letter.ensures i ∷ [])) (c.put_field.ensures.text before fields h)

pub returns-else-band-bands-clause-text : goal.returns-else-band-bands-clause-text
returns-else-band-bands-clause-text c = λ before fields h.
    let none = no-letter c.args.office.now c.args.band.0 (omega (arith, c.bands.ensures.count)) in
    fields-are _ _ before _ _ (λ i. fields ++ (sym none i ∷ [])) (c.put_field-else-band-bands.ensures.text before fields h)
