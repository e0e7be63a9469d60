-- Up to when the meters of an account are read, and how many calls and rows that takes.
-- (Definitions of this project.)
use Rattle.std.specs.Prelude.{◌≡◌, ℕ, ◌+◌, ◌*◌, ◌-◌, ◌<◌, ◌≤◌, true, Some, List}
use Rattle.std.specs.Ordering.{nat_cmp}
use Rattle.std.specs.declared.cmp.Ordering.{Ordering}
use Rattle.pw_flow.specs.Time.{last}
use Rattle.pw_tariff.specs.declared.ids.AccountId.{AccountId}
use Rattle.pw_tariff.specs.Office.{OfficeRules, register_place}
use Rattle.pw_model.specs.declared.records.Key.{Key}
use Rattle.pw_model.specs.declared.records.Contents.{Contents}
use Rattle.pw_model.specs.declared.records.Entry.{Entry}
use Rattle.pw_model.specs.Counting.{contents_at, point}
use Rattle.pw_model.specs.Energy.{owner_at}
use Rattle.pw_model.specs.Lists.{Lists}
use Rattle.pw_model.specs.Shelf.{ShelfContent}
use Rattle.pw_book.specs.Cost.{HasStarts}
use Rattle.pw_bills.specs.declared.readings.LastReading.{LastReading}
use Rattle.pw_bills.specs.Reads.{IsBetween, IsOwned}

-- ---- which they are
-- the meter is the account's at a second of the interval
abbrev pub IsAccountsIn : (Key → Contents) → AccountId → ℕ → ℕ → ℕ → Type 0
IsAccountsIn at a from to m = (t : ℕ) × IsBetween from to t × (owner_at at m t ≡ Some a)

-- of a meter of the office, which is the account's in the interval, a register that counts; and the latest of its
-- counting readings that isn't behind the interval, if there is one
pub record IsLastReading (office : OfficeRules) (at : Key → Contents) (a : AccountId) (from to : ℕ) (row : LastReading) :
    Type 0 where
  pub meter : row.meter.0 < office.meters
  pub accounts : IsAccountsIn at a from to row.meter.0
  pub counts : office.counts row.meter.0 row.register ≡ true
  pub latest : row.last ≡ last (point at row.meter.0 row.register) (to - 1)

-- by meter, and of a meter by register
abbrev pub register_number : LastReading → ℕ
register_number row = 6 * row.meter.0 + register_place row.register

abbrev pub reading_order : LastReading → LastReading → Ordering
reading_order row other = nat_cmp (register_number row) (register_number other)

abbrev pub AreLastReadings : OfficeRules → List Entry → AccountId → ℕ → ℕ → List LastReading → Type 0
AreLastReadings office s a from to = Lists reading_order (IsLastReading office (contents_at s) a from to)

-- ---- how much is read
-- so many calls and rows are enough for a meter: one call, and its counting starts; and where it is the account's in
-- the interval, three for each of four registers
pub record IsEnoughToRead (c : ShelfContent) (a x y m most : ℕ) : Type 0 where
  pub starts : ℕ
  pub few : HasStarts c m starts
  pub asked : 1 + starts ≤ most
  pub owned : IsOwned c a x y m → 13 + starts ≤ most

-- so many are, meter by meter
abbrev pub AreEnoughToRead : OfficeRules → ShelfContent → ℕ → ℕ → ℕ → (ℕ → ℕ) → Type 0
AreEnoughToRead office c a x y most = (m : ℕ) → m < office.meters → IsEnoughToRead c a x y m (most m)
