use Rattle.std.proofs.Common.{◌≡◌, ◌==◌, ◌<◌, ℕ, get_or, false}
use Rattle.pw_tariff.specs.declared.office.Band.{Band}
use Rattle.pw_tariff.proofs.office.named.Given as goal

abbrev pub invariant-loop-i : goal.invariant-loop-i
invariant-loop-i l = (k : ℕ) (d : Band) → k < l.i → ((get_or l.bands k d).name == l.letter) ≡ false
