use Rattle.std.proofs.Common.{◌≡◌, ◌++◌, List}
use Rattle.pw_obis.specs.Line.{SetText}
use Rattle.pw_record.specs.Shown.{AreShown}
use Rattle.pw_record.specs.inner.Shown.{shown_in}
use Rattle.pw_record.proofs.shown.all_shown.Given as goal

abbrev pub invariant-sets : goal.invariant-sets
invariant-sets l = (done : List SetText) × (l.block ≡ done ++ l.set-iterator) × AreShown l.office l.meter.0 done (shown_in l.shown)
