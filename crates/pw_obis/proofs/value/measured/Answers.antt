use Rattle.std.proofs.Common.{◌∙◌}
use Rattle.std.proofs.lemmas.List.{take_rest}
use Rattle.pw_obis.proofs.OneUnit.{no_unit}
use Rattle.pw_obis.proofs.value.measured.Goals as goal

pub returns-clause-none : goal.returns-clause-none
returns-clause-none c =
    no_unit c.args.text.now c.find-star.result c.find-star.ensures.before c.find-star.ensures.found
    (λ e.
    let f = take_rest c.args.text.now c.find-star.result ∙ e in
    let g = rw (f, c.as_slice.ensures) at c.eq.ensures in
    cc)
    (λ e.
    let f = take_rest c.args.text.now c.find-star.result ∙ e in
    let g = rw (f, c.as_slice-2.ensures) at c.eq-2.ensures in
    cc)
