use Rattle.std.proofs.Common.{◌≡◌, map, string_bytes, drop}
use Rattle.std.specs.List.{list_all}
use Rattle.pw_tariff.specs.Held.{bands_of}
use Rattle.pw_tariff.specs.Text.{is_day}
use Rattle.pw_tariff.proofs.week.are_days.Given as goal

abbrev pub invariant-loop-day : goal.invariant-loop-day
invariant-loop-day l = list_all (is_day (bands_of l.bands)) (map string_bytes l.week)
    ≡ list_all (is_day (bands_of l.bands)) (map string_bytes (drop l.day-index l.week))
