-- Falls, disputes and assignments, as far as registers, meters and kinds were looked through.
-- It serves `src/falls.rt`, `src/disputes.rt` and `src/assignments.rt`.
-- (Definitions of this project.)
use Rattle.std.specs.Prelude.{◌≡◌, ℕ, ◌+◌, ◌*◌, ◌<◌, ◌≤◌, Some, List, length}
use Rattle.pw_obis.specs.declared.reference.Register.{Register}
use Rattle.pw_time.specs.Instants.{IsInstant}
use Rattle.pw_model.specs.declared.records.Entry.{Entry}
use Rattle.pw_model.specs.declared.records.Key.{Key}
use Rattle.pw_model.specs.declared.records.Key.TheVariants as key
use Rattle.pw_model.specs.declared.records.Fall.{Fall}
use Rattle.pw_model.specs.declared.records.Dispute.{Dispute}
use Rattle.pw_model.specs.Counting.{Member, contents_at, point}
use Rattle.pw_model.specs.Kinds.{IsAssignment}
use Rattle.pw_model.specs.Same.{entry_order}
use Rattle.pw_model.specs.Lists.{Lists, IsFall, fall_order, IsDispute, dispute_order}
use Rattle.pw_model.specs.Office.{most_records}
use Rattle.pw_model.specs.Shelf.{ShelfContent}
use Rattle.pw_tariff.specs.Office.{register_place}

-- ---- places
-- the registers of all meters first, then the meters, then the top-ups, then the withdrawals
abbrev pub key_place : ℕ → Key → ℕ
key_place meters (key.Reading m r t) = 6 * m.0 + register_place r
key_place meters (key.Assignment m t) = 6 * meters + m.0
key_place meters (key.TopUp r) = 7 * meters
key_place meters (key.Withdrawal n) = 7 * meters + 1

-- a key of one of so many meters, or of a top-up, or of a withdrawal
abbrev pub IsWithin : ℕ → Key → Type 0
IsWithin meters (key.Reading m r t) = m.0 < meters
IsWithin meters (key.Assignment m t) = m.0 < meters
IsWithin meters (key.TopUp r) = Unit {0}
IsWithin meters (key.Withdrawal n) = Unit {0}

-- the place of a fall's register among the six of each meter
abbrev pub fall_place : Fall → ℕ
fall_place f = 6 * f.meter.0 + register_place f.register

-- the falls of the registers before a place
abbrev pub FallsBefore : List Entry → ℕ → List Fall → Type 0
FallsBefore s n = Lists fall_order (λ f. IsFall (contents_at s) f × (fall_place f < n))

-- points that are those of the readings that count, each at an instant
pub record TellsPoints (c : ShelfContent) : Type 0 where
  pub points : c.point ≡ point (contents_at c.records)
  pub instants : (m : ℕ) (r : Register) (t w : ℕ) → c.point m r t ≡ Some w → IsInstant t

-- the disputes of the keys before a place
abbrev pub DisputesBefore : ℕ → List Entry → ℕ → List Dispute → Type 0
DisputesBefore meters s n = Lists dispute_order (λ d. IsDispute s d × (key_place meters d.key < n))

-- not too many records, all of so many meters
pub record AreWithin (meters : ℕ) (s : List Entry) : Type 0 where
  pub few : length s ≤ most_records
  pub keys : (e : Entry) → Member e s → IsWithin meters e.key

-- ---- assignments
-- the number of a key's meter
abbrev pub meter_place : Key → ℕ
meter_place (key.Reading m r t) = m.0
meter_place (key.Assignment m t) = m.0
meter_place (key.TopUp r) = 0
meter_place (key.Withdrawal n) = 0

-- the assignments of the meters before a number
abbrev pub AssignmentsBefore : List Entry → ℕ → List Entry → Type 0
AssignmentsBefore s n = Lists entry_order (λ e. (Member e s × IsAssignment e.key) × (meter_place e.key < n))
