-- What totals lose and gain, gathered by total.
-- (Definitions of this project.)
use Rattle.std.specs.Prelude.{ℕ, cond, Option, Some, None, List}
use Rattle.std.specs.BTreeMap.{BTreeMap, get}
use Rattle.pw_flow.specs.Pairs.{pairs_sum}
use Rattle.pw_tariff.specs.declared.ids.AccountId.{AccountId}
use Rattle.pw_tariff.specs.declared.ids.Direction.{Direction}
use Rattle.pw_tariff.specs.Office.{OfficeFile}
use Rattle.pw_tariff.specs.Shares.{class_seconds}
use Rattle.pw_model.specs.declared.records.TotalKey.{TotalKey}
use Rattle.pw_model.specs.declared.records.TotalKey.TheVariants.{Energy, TopUps}
use Rattle.pw_model.specs.Same.{same_direction, total_key_order}
use Rattle.pw_parts.specs.declared.changes.Change.{Change}
use Rattle.pw_parts.specs.declared.changes.Side.{Side}
use Rattle.pw_parts.specs.declared.changes.Side.TheVariants.{Loses, Gains}

-- what a total loses, or what it gains
abbrev pub amount_on : Side → Change → ℕ
amount_on Loses c = c.less
amount_on Gains c = c.more

abbrev pub other_side : Side → Side
other_side Loses = Gains
other_side Gains = Loses

-- none that is there is 0
abbrev pub amount_told : Side → Option Change → ℕ
amount_told side None = 0
amount_told side (Some c) = amount_on side c

-- what is gathered on a side for a total
abbrev pub gathered : Side → BTreeMap TotalKey Change → TotalKey → ℕ
gathered side rows k = amount_told side (get total_key_order rows k)

-- what the neighbouring pairs of a list of points of a direction give to a total
abbrev pub pairs_for : OfficeFile → List (ℕ × Option AccountId) → Direction → List (ℕ × ℕ) → TotalKey → ℕ
pairs_for office owners d points (Energy o p b e) = cond (same_direction d e) (pairs_sum (class_seconds office owners o p.0 b.0) points) 0
pairs_for office owners d points (TopUps a) = 0
