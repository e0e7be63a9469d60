use Rattle.std.proofs.Common.{◌++◌, ℕ, List, []}
use Rattle.pw_tariff.specs.declared.ids.Direction.TheVariants.{Import, Export}
use Rattle.pw_report.specs.DaysAndWhy.{day_line}
use Rattle.pw_report.specs.Layout.{listed_below}
use Rattle.pw_report.specs.inner.Rows.{HasText}
use Rattle.pw_report.specs.inner.Told.{day_energies}
use Rattle.pw_report.proofs.days.put_day.Given as goal

abbrev pub invariant-loop-band : goal.invariant-loop-band
invariant-loop-band l = (before : List ℕ) → HasText l.initial.rows before [] →
    HasText l.rows (before ++ listed_below l.band (λ b. day_line l.told.office.now l.told.month (day_energies l.told.energies.now) l.day b Import ++ day_line l.told.office.now l.told.month (day_energies l.told.energies.now) l.day b Export)) []
