-- Which records can change the bill of an interval: those that change what is told of it.
-- (Laws of this project.)
use Rattle.std.specs.Prelude.{◌≡◌, ◌⊎◌, ℕ, ◌-◌, ◌<◌, ◌≤◌, true, Option, Some, None, List}
use Rattle.pw_obis.specs.declared.reference.Register.{Register}
use Rattle.pw_tariff.specs.declared.ids.AccountId.{AccountId}
use Rattle.pw_tariff.specs.declared.ids.Direction.{Direction}
use Rattle.pw_tariff.specs.Office.{OfficeRules}
use Rattle.pw_flow.specs.Time.{last, next}
use Rattle.pw_flow.specs.Pairs.{StandAround}
use Rattle.pw_model.specs.declared.records.Key.{Key}
use Rattle.pw_model.specs.declared.records.Contents.{Contents}
use Rattle.pw_model.specs.declared.records.Entry.{Entry}
use Rattle.pw_model.specs.Counting.{contents_at, point, start}
use Rattle.pw_model.specs.Energy.{Asked, energy_where, owner_at}
use Rattle.pw_model.specs.Changes.{IsOneMoreReading, IsOtherStart}
use Rattle.pw_months.specs.Between.{between, cents_between, topped_up_between}
use Rattle.pw_months.specs.Bills.{bill_of}

-- two sets tell the same of a register in an interval: the latest counting reading where it begins, those within it,
-- and the earliest from its end on
pub record ReadTheSame (end : ℕ) (p q : ℕ → Option ℕ) (from to : ℕ) : Type 0 where
  pub before : last p from ≡ last q from
  pub within : (t : ℕ) → from < t → t < to → p t ≡ q t
  pub behind : next p (to - 1) (end - (to - 1)) ≡ next q (to - 1) (end - (to - 1))

-- and of all: the owners of each meter in it, and each register that counts
pub record TellTheSame (office : OfficeRules) (at bt : Key → Contents) (from to : ℕ) : Type 0 where
  pub owners : (m t : ℕ) → m < office.meters → from ≤ t → t < to → owner_at at m t ≡ owner_at bt m t
  pub readings : (m : ℕ) (r : Register) → m < office.meters → office.counts m r ≡ true →
      ReadTheSame office.end (point at m r) (point bt m r) from to

-- then the energies of the interval are the same, whatever seconds of it are asked for
abbrev pub EnergyGoesByWhatIsTold : Type 0
EnergyGoesByWhatIsTold = (office : OfficeRules) (at bt : Key → Contents) (from to : ℕ) → from < to → to ≤ office.end →
    TellTheSame office at bt from to → (asked : Asked) (d : Direction) →
    energy_where office at d (between from to asked) ≡ energy_where office bt d (between from to asked)

-- what is topped up in an interval goes by the counting top-ups that have their instant in it
abbrev pub TopUpsGoByWhatIsTold : Type 0
TopUpsGoByWhatIsTold = (s t : List Entry) (a from to : ℕ) →
    ((k : Key) → cents_between a from to (contents_at s k) ≡ cents_between a from to (contents_at t k)) →
    topped_up_between s a from to ≡ topped_up_between t a from to

-- so two sets that tell the same up to an instant, and have the same counting top-ups of the account before it, have
-- the same bills of intervals that end there or before
abbrev pub BillGoesByWhatIsTold : Type 0
BillGoesByWhatIsTold = (office : OfficeRules) (s t : List Entry) (a from to end : ℕ) →
    from ≤ to → to ≤ end → 0 < end → end ≤ office.end → TellTheSame office (contents_at s) (contents_at t) 0 end →
    ((k : Key) (x y : ℕ) → y ≤ end → cents_between a x y (contents_at s k) ≡ cents_between a x y (contents_at t k)) →
    bill_of office s a from to ≡ bill_of office t a from to

-- ---- one record more, or one less
-- the second of a point, or this one where there is none
abbrev pub second_or : ℕ → Option (ℕ × ℕ) → ℕ
second_or z None = z
second_or z (Some a) = a.0

-- a reading that begins or ceases to count changes energies of no interval that doesn't meet the time from the
-- neighbour before it to the one behind it
abbrev pub OneReadingReaches : Type 0
OneReadingReaches = (office : OfficeRules) (old new : Key → Contents) (m : ℕ) (r : Register) (z w : ℕ)
    (below above : Option (ℕ × ℕ)) →
    IsOneMoreReading old new m r z w → StandAround (point old m r) office.end z below above →
    m < office.meters → office.counts m r ≡ true →
    (from to : ℕ) → (to ≤ second_or z below) ⊎ (second_or z above ≤ from) → (asked : Asked) (d : Direction) →
    energy_where office old d (between from to asked) ≡ energy_where office new d (between from to asked)

-- another assignment of a meter changes energies of no interval that ends where it begins or before, or that begins
-- with the meter's next counting start or behind it
abbrev pub OtherStartReaches : Type 0
OtherStartReaches = (office : OfficeRules) (old new : Key → Contents) (m z : ℕ) → IsOtherStart old new m z →
    (from to : ℕ) →
    (to ≤ z) ⊎ ((y : ℕ) × (o : Option AccountId) × (start old m y ≡ Some o) × (z < y) × (y ≤ from)) →
    (asked : Asked) (d : Direction) →
    energy_where office old d (between from to asked) ≡ energy_where office new d (between from to asked)
