-- Which seconds calendars can show. It serves `src/civil.rt`.
use Rattle.std.specs.Prelude.{ℤ, pos, neg_ℤ}
use Rattle.jiff_core.specs.Calendar.{IsBetween}

-- the seconds of the days that the calendar has
abbrev pub IsCivilSecond : ℤ → Type 0
IsCivilSecond n = IsBetween (neg_ℤ (pos 377_705_116_800)) (pos 253_402_300_799) n
