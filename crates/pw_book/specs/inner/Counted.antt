-- The records that count, and what they tell by the second. It serves the questions of a book.
-- (Definitions of this project.)
use Rattle.std.specs.Prelude.{◌≡◌, ◌↔◌, ◌<◌, ◌≤◌, ℕ, Option, Some, IsTrue, not, ◌&&◌, List, get_or, length}
use Rattle.pw_flow.specs.Flow.{AreNeighbours}
use Rattle.pw_obis.specs.declared.reference.Register.{Register}
use Rattle.pw_tariff.specs.declared.ids.MeterId.{MeterId}
use Rattle.pw_model.specs.declared.records.Entry.{Entry}
use Rattle.pw_model.specs.declared.records.Fall.{Fall}
use Rattle.pw_model.specs.Counting.{is_withdrawn}
use Rattle.pw_parts.specs.Shown.{shown}
use Rattle.pw_model.specs.declared.records.ReadingRow.{ReadingRow}

-- the row of a reading: marked as counted where this is what is told at its second, else as withdrawn where one of the
-- records withdraws it
pub record IsRowOf (told : ℕ → Option ℕ) (s : List Entry) (e : Entry) (row : ReadingRow) : Type 0 where
  pub shows : shown e ≡ Some (row.instant, row.wh)
  pub counted : IsTrue row.counted ↔ (told row.instant ≡ Some row.wh)
  pub withdrawn : row.withdrawn ≡ (not row.counted && is_withdrawn s e)

-- so many of a list of points stand before a second
pub record StandBefore (points : List (ℕ × ℕ)) (t count : ℕ) : Type 0 where
  pub bound : count ≤ length points
  pub early : (i : ℕ) (a : ℕ × ℕ) → i < count → (get_or points i a).0 < t
  pub late : (i : ℕ) (a : ℕ × ℕ) → count ≤ i → i < length points → t ≤ (get_or points i a).0

-- a fall of the register whose values are told by the second
pub record IsFallOf (m : MeterId) (r : Register) (told : ℕ → Option ℕ) (f : Fall) : Type 0 where
  pub meter : f.meter ≡ m
  pub register : f.register ≡ r
  pub neighbours : AreNeighbours told f.from f.high f.to f.low
  pub lower : f.low < f.high
