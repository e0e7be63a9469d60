-- Totals that only gain. It serves `src/changes.rt`, `src/energies.rt`, `src/payments.rt` and `src/parts.rt`.
-- (Definitions of this project.)
use Rattle.std.specs.Prelude.{◌≡◌, ℕ, ◌+◌, ◌^◌, ◌<◌, ◌&&◌, ltb, cond, Option, Some, None}
use Rattle.std.specs.BTreeMap.{BTreeMap}
use Rattle.pw_model.specs.declared.records.TotalKey.{TotalKey}
use Rattle.pw_parts.specs.Changes.{gathered}
use Rattle.pw_parts.specs.declared.changes.Change.{Change}
use Rattle.pw_parts.specs.declared.changes.Side.TheVariants.{Gains}

-- what is gathered for a total
abbrev pub total_in : BTreeMap TotalKey Change → TotalKey → ℕ
total_in rows k = gathered Gains rows k

-- new is old with what is given to each total
abbrev pub IsGiven : (TotalKey → ℕ) → BTreeMap TotalKey Change → BTreeMap TotalKey Change → Type 0
IsGiven given old new = (k : TotalKey) → total_in new k ≡ total_in old k + given k

-- with what is given to it, no total is too large for a word
abbrev pub HasRoom : (TotalKey → ℕ) → BTreeMap TotalKey Change → Type 0
HasRoom given old = (k : TotalKey) → total_in old k + given k < 2 ^ 64

-- what a row of the map gains, if it is something that a word holds
abbrev pub gain : TotalKey × Change → Option (TotalKey × ℕ)
gain e = cond (ltb 0 e.1.more && ltb e.1.more (2 ^ 64)) (Some (e.0, e.1.more)) None
