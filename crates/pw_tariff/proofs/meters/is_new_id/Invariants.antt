use Rattle.std.proofs.Common.{◌≡◌, drop}
use Rattle.pw_tariff.specs.Words.{is_new}
use Rattle.pw_tariff.specs.inner.Held.{ids_of}
use Rattle.pw_tariff.proofs.meters.is_new_id.Given as goal

abbrev pub invariant-loop-other : goal.invariant-loop-other
invariant-loop-other l = is_new l.id (ids_of l.earlier) ≡ is_new l.id (ids_of (drop l.other-index l.earlier))
