use Rattle.pw_moving.specs.inner.Comparing.{AreOfBands, Puts}
use Rattle.pw_moving.proofs.comparing.put_prices.Given as goal

abbrev pub invariant-loop-band : goal.invariant-loop-band
invariant-loop-band l = Puts (AreOfBands (record { old = l.old; new = l.new }) l.period.0 l.band) l.initial.changes.items l.changes.items
