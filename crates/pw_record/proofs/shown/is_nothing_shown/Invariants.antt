use Rattle.std.proofs.Common.{◌≡◌, ◌<◌, ℕ, None, get_or}
use Rattle.pw_obis.specs.declared.reference.Register.TheVariants.{I0}
use Rattle.pw_obis.specs.Registers.{registers}
use Rattle.pw_record.specs.inner.Shown.{shown_in}
use Rattle.pw_record.proofs.shown.is_nothing_shown.Given as goal

abbrev pub invariant-loop-register : goal.invariant-loop-register
invariant-loop-register l = (l.register-items ≡ registers) × ((k : ℕ) → k < l.register-index → shown_in l.shown (get_or registers k I0) ≡ None)
