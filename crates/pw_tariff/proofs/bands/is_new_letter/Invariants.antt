use Rattle.std.proofs.Common.{◌≡◌, [], ◌∷◌, drop}
use Rattle.pw_tariff.specs.Words.{is_new}
use Rattle.pw_tariff.specs.inner.Held.{letters_of}
use Rattle.pw_tariff.proofs.bands.is_new_letter.Given as goal

abbrev pub invariant-loop-other : goal.invariant-loop-other
invariant-loop-other l = is_new (l.letter ∷ []) (letters_of l.earlier) ≡ is_new (l.letter ∷ []) (letters_of (drop l.other-index l.earlier))
