use Rattle.std.proofs.Common.{◌≡◌, length, drop, nat_lt}
use Rattle.std.specs.List.{list_all}
use Rattle.pw_tariff.specs.Held.{bands_of}
use Rattle.pw_tariff.specs.Office.{band_named}
use Rattle.pw_tariff.proofs.week.are_letters.Given as goal

abbrev pub invariant-loop-letter : goal.invariant-loop-letter
invariant-loop-letter l = list_all (λ c. nat_lt (band_named (bands_of l.bands) c) (length (bands_of l.bands))) l.day
    ≡ list_all (λ c. nat_lt (band_named (bands_of l.bands) c) (length (bands_of l.bands))) (drop l.letter-index l.day)
