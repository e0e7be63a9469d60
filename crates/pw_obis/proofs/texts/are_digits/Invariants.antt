use Rattle.std.proofs.Common.{drop}
use Rattle.std.specs.Str.Parse.{AllDigits}
use Rattle.pw_obis.proofs.texts.are_digits.Given as goal

abbrev pub invariant-loop-b : goal.invariant-loop-b
invariant-loop-b l = (AllDigits 10 l.text → AllDigits 10 (drop l.b-index l.text)) × (AllDigits 10 (drop l.b-index l.text) → AllDigits 10 l.text)
