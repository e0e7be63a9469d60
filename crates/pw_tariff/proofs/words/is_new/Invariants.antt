use Rattle.std.proofs.Common.{◌≡◌, map, string_bytes, drop}
use Rattle.pw_tariff.specs.Words.{is_new}
use Rattle.pw_tariff.proofs.words.is_new.Given as goal

abbrev pub invariant-loop-other : goal.invariant-loop-other
invariant-loop-other l = is_new l.name (map string_bytes l.earlier) ≡ is_new l.name (map string_bytes (drop l.other-index l.earlier))
