-- When a counting shelf fails.
-- (Definitions of this project.)
use Rattle.std.specs.Prelude.{ℕ, Bool, false}
use Rattle.pw_shelf.specs.declared.plan.Plan.{Plan}

-- at the call of this number, counted from 1, and behind it at each `abandon`, if told so; never at 0
abbrev pub plan_of : ℕ → Bool → Plan
plan_of fail_at abandon_fails = record { until = fail_at; failed = false; abandon_fails = abandon_fails }
