-- Which seconds are instants.
use Rattle.std.specs.Prelude.{ℕ, ◌≤◌}
use Rattle.pw_time.specs.declared.instant.TheConstants.{FIRST_SECOND, LAST_SECOND}

-- a whole second since 1970-01-01T00:00:00Z, from 2000-01-01T00:00:00Z to 2099-12-31T23:59:59Z
abbrev pub IsInstant : ℕ → Type 0
IsInstant t = (FIRST_SECOND ≤ t) × (t ≤ LAST_SECOND)
