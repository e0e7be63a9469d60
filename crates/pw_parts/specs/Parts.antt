-- The points, starts and totals of a set of records, as lists.
-- (Definitions of this project.)
use Rattle.std.specs.Prelude.{◌≡◌, ℕ, ◌<◌, List}
use Rattle.std.specs.declared.cmp.Ordering.{Ordering}
use Rattle.pw_tariff.specs.Office.{OfficeRules}
use Rattle.pw_model.specs.declared.records.TotalKey.{TotalKey}
use Rattle.pw_model.specs.declared.records.Entry.{Entry}
use Rattle.pw_model.specs.Counting.{Counts}
pub use Rattle.pw_model.specs.Kinds.{IsReading, IsAssignment}
use Rattle.pw_model.specs.Lists.{Lists}
use Rattle.pw_model.specs.Same.{key_order, total_order}
use Rattle.pw_model.specs.Shelf.{total_among}
use Rattle.pw_parts.specs.declared.parts.Parts.{Parts}

-- in the order of their keys
abbrev pub by_key : Entry → Entry → Ordering
by_key e f = key_order e.key f.key

-- energies first, by owner (nobody first), period, band and direction; then top-ups, by account
abbrev pub by_total : TotalKey × ℕ → TotalKey × ℕ → Ordering
by_total a b = total_order a.0 b.0

-- the parts of a set of records in an office
pub record IsPartsOf (office : OfficeRules) (s : List Entry) (parts : Parts) : Type 0 where
  -- just the readings that count
  pub points : Lists by_key (λ e. Counts s e × IsReading e.key) parts.points.items
  -- just the assignments that count
  pub starts : Lists by_key (λ e. Counts s e × IsAssignment e.key) parts.starts.items
  -- just the totals above 0, each with its key
  pub totals : Lists by_total (λ t. (t.1 ≡ total_among office s t.0) × (0 < t.1)) parts.totals.items
