use Rattle.std.proofs.Common.{◌≡◌, ◌∙◌, ◌++◌, ℕ, List, ap, append_assoc, arith, length}
use Rattle.pw_tariff.specs.declared.ids.Direction.TheVariants.{Import, Export}
use Rattle.pw_report.specs.DaysAndWhy.{day_line}
use Rattle.pw_report.specs.Layout.{listed_below}
use Rattle.pw_report.specs.inner.Told.{day_energies}
use Rattle.pw_report.proofs.Fields.{text-is}
use Rattle.pw_report.proofs.Listed.{listed-none, listed-next}
use Rattle.pw_report.proofs.days.put_day.Goals as goal

pub loop-band-init : goal.loop-band-init
loop-band-init c = λ before h. text-is _ _ _ (listed-none before _) h

pub loop-band-preserved : goal.loop-band-preserved
loop-band-preserved c = λ before h.
    let line = day_line c.args.told.now.office.now c.args.told.now.month (day_energies c.args.told.now.energies.now) c.args.day in
    let lines = λ (b : ℕ). line b Import ++ line b Export in
    let b = c.loop-band.band in
    text-is _ _ _
    (append_assoc (before ++ listed_below b lines) (line b Import) (line b Export) ∙ append_assoc before (listed_below b lines) (lines b) ∙ ap (λ (t : List ℕ). before ++ t) (listed-next lines b))
    (c.in_ok-put_direction-2.ensures.text _ (c.in_ok-put_direction.ensures.text _ (c.loop-band.invariant before h)))

pub returns-clause-text : goal.returns-clause-text
returns-clause-text c = λ before h.
    let line = day_line c.args.told.now.office.now c.args.told.now.month (day_energies c.args.told.now.energies.now) c.args.day in
    let all : c.loop-band.band ≡ length c.args.told.now.office.now.bands = omega (arith, c.bands-band-end.ensures.count, c.loop-band.auto.band-end, c.loop-band-test.false) in
    text-is _ _ _ (ap (λ n. before ++ listed_below n (λ (b : ℕ). line b Import ++ line b Export)) all) (c.loop-band.invariant before h)
