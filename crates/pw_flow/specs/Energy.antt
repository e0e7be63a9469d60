-- The energy of a register over the seconds that are kept, and what each pair of points gives to it.
-- (Definitions of this project, over the flow of a second.)
use Rattle.std.specs.Prelude.{ℕ, ◌-◌, Option, Bool, cond}
use Rattle.pw_flow.specs.Time.{sum_over}
use Rattle.pw_flow.specs.Flow.{pair_flow, flow}

-- `keeps` tells which seconds are asked for: those of an owner, of a tariff band, of a period.

-- f at the seconds that are kept
abbrev pub kept : (ℕ → Bool) → (ℕ → ℕ) → ℕ → ℕ
kept keeps f t = cond (keeps t) (f t) 0

-- the energy of one register over the seconds before end that are kept
unfoldable pub register_energy : (ℕ → Bool) → (ℕ → Option ℕ) → ℕ → ℕ
register_energy keeps points end = sum_over (kept keeps (flow points end)) 0 end

-- what a pair gives to the seconds that are kept
unfoldable pub cell : (ℕ → Bool) → ℕ × ℕ → ℕ × ℕ → ℕ
cell keeps a b = sum_over (kept keeps (pair_flow a b)) a.0 (b.0 - a.0)
