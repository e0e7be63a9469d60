-- How a plan goes on. It serves `src/plan.rt`.
-- (Definitions of this project.)
use Rattle.std.specs.Prelude.{◌-◌, ◌==◌, ◌||◌}
use Rattle.pw_shelf.specs.declared.plan.Plan.{Plan}

-- one call later
abbrev pub plan_behind : Plan → Plan
plan_behind p = record p { until = p.until - 1; failed = p.failed || (p.until == 1) }
