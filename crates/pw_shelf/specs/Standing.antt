-- What the parts of a store in memory tell: now, and when the upload began (then).
-- (Definitions of this project.)
use Rattle.std.specs.Prelude.{ℕ, Option, unwrap_or, List}
use Rattle.pw_obis.specs.declared.reference.Register.{Register}
use Rattle.pw_tariff.specs.declared.ids.AccountId.{AccountId}
use Rattle.pw_tariff.specs.declared.ids.MeterId.{MeterId}
use Rattle.pw_model.specs.declared.records.Entry.{Entry}
use Rattle.pw_model.specs.declared.records.TotalKey.{TotalKey}
use Rattle.pw_shelf.specs.declared.held.Held.{Held}
use Rattle.pw_shelf.specs.declared.table.Table.{Table}
use Rattle.pw_shelf.specs.Added.{without}
use Rattle.pw_model.specs.Same.{total_key_order}
use Rattle.pw_shelf.specs.Orders.{point_order, start_order}
use Rattle.pw_shelf.specs.Table.{at_begin, at_now}

abbrev pub meter_id : ℕ → MeterId
meter_id m = record { 0 = m }

-- ---- records
abbrev pub records_now : Held → List Entry
records_now h = h.records.keys

abbrev pub records_then : Held → List Entry
records_then h = without h.added.items h.records.keys

-- ---- points
abbrev pub point_now : Table (MeterId × Register × ℕ) ℕ → ℕ → Register → ℕ → Option ℕ
point_now rows m r t = at_now point_order rows (meter_id m, r, t)

abbrev pub point_then : Table (MeterId × Register × ℕ) ℕ → ℕ → Register → ℕ → Option ℕ
point_then rows m r t = at_begin point_order rows (meter_id m, r, t)

-- ---- starts
abbrev pub start_now : Table (MeterId × ℕ) (Option AccountId) → ℕ → ℕ → Option (Option AccountId)
start_now rows m t = at_now start_order rows (meter_id m, t)

abbrev pub start_then : Table (MeterId × ℕ) (Option AccountId) → ℕ → ℕ → Option (Option AccountId)
start_then rows m t = at_begin start_order rows (meter_id m, t)

-- ---- totals: absent is 0
abbrev pub total_now : Table TotalKey ℕ → TotalKey → ℕ
total_now rows k = unwrap_or (at_now total_key_order rows k) 0

abbrev pub total_then : Table TotalKey ℕ → TotalKey → ℕ
total_then rows k = unwrap_or (at_begin total_key_order rows k) 0
