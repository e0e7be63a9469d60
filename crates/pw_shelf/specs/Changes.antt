-- A content with one point, one start or one total changed.
-- (Definitions of this project.)
use Rattle.std.specs.Prelude.{ℕ, cond, Option}
use Rattle.pw_obis.specs.declared.reference.Register.{Register}
use Rattle.pw_tariff.specs.declared.ids.AccountId.{AccountId}
use Rattle.pw_model.specs.declared.records.TotalKey.{TotalKey}
use Rattle.pw_model.specs.Counting.{assignment_key, reading_key}
use Rattle.pw_model.specs.Same.{same_key}
use Rattle.pw_model.specs.Shelf.{ShelfContent}
pub use Rattle.pw_model.specs.Same.{same_total}

-- ---- each function with another value at one place
abbrev pub points_with : (ℕ → Register → ℕ → Option ℕ) → ℕ → Register → ℕ → Option ℕ → ℕ → Register → ℕ → Option ℕ
points_with points m r t w n s u = cond (same_key (reading_key m r t) (reading_key n s u)) w (points n s u)

abbrev pub starts_with : (ℕ → ℕ → Option (Option AccountId)) → ℕ → ℕ → Option (Option AccountId) → ℕ → ℕ →
    Option (Option AccountId)
starts_with starts m t o n u = cond (same_key (assignment_key m t) (assignment_key n u)) o (starts n u)

abbrev pub totals_with : (TotalKey → ℕ) → TotalKey → ℕ → TotalKey → ℕ
totals_with totals k a l = cond (same_total k l) a (totals l)

-- ---- contents with one change
-- of the point of a meter and register at a second
abbrev pub with_point : ShelfContent → ℕ → Register → ℕ → Option ℕ → ShelfContent
with_point c m r t w = record c { point = points_with c.point m r t w }

-- of the start of a meter at a second
abbrev pub with_start : ShelfContent → ℕ → ℕ → Option (Option AccountId) → ShelfContent
with_start c m t o = record c { start = starts_with c.start m t o }

-- of the total at a key
abbrev pub with_total : ShelfContent → TotalKey → ℕ → ShelfContent
with_total c k a = record c { total = totals_with c.total k a }
