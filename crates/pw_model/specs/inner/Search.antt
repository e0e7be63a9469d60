-- What the plain program finds among some of the records. It serves the plain program (`src/plain`).
-- (Definitions of this project.)
use Rattle.std.specs.Prelude.{◌≡◌, ℕ, ◌+◌, ◌<◌, ◌≤◌, ◌⊎◌, ◌↔◌, ◌&&◌, Bool, IsTrue, cond, nat_le, Option, Some, None, List, length, get_or, filter}
use Rattle.pw_time.specs.declared.instant.TheConstants.{FIRST_SECOND, LAST_SECOND}
use Rattle.pw_obis.specs.declared.reference.Register.{Register}
use Rattle.pw_model.specs.declared.records.Key.{Key}
use Rattle.pw_model.specs.declared.records.Contents.{Contents}
use Rattle.pw_model.specs.declared.records.Contents.TheVariants.{One}
use Rattle.pw_model.specs.declared.records.Entry.{Entry}
use Rattle.pw_model.specs.declared.records.Fall.{Fall}
use Rattle.pw_model.specs.declared.records.Dispute.{Dispute}
use Rattle.pw_model.specs.declared.records.ReadingRow.{ReadingRow}
use Rattle.pw_model.specs.Same.{entry_order}
use Rattle.pw_model.specs.Counting.{Member, is_withdrawn, standing, Counts, contents_at, point, reading_key, assignment_key}
use Rattle.pw_model.specs.Payments.{cents_for, keys}
use Rattle.pw_model.specs.Lists.{IsInOrder, Lists, IsFall, IsDispute, fall_order, dispute_order, reading_order, reading_entry}

-- the instants among the seconds that are asked for
abbrev pub at_instants : (ℕ → Bool) → ℕ → Bool
at_instants asked t = (nat_le FIRST_SECOND t && nat_le t LAST_SECOND) && asked t

-- ---- starts
-- none: none of these records assigns the meter up to and with t; some: the second isn't behind t, and none of them does so
-- between it and t
abbrev pub IsLatestAmong : ℕ → ℕ → List Entry → Option ℕ → Type 0
IsLatestAmong m t some None = (e : Entry) → Member e some → (s : ℕ) → e.key ≡ assignment_key m s → s ≤ t → ⊥
IsLatestAmong m t some (Some a) = (a ≤ t) × ((e : Entry) → Member e some → (s : ℕ) → e.key ≡ assignment_key m s → s ≤ t → s ≤ a)

-- none: a record doesn't assign the meter up to and with t; some: it does so from this second on
abbrev pub IsStartIn : ℕ → ℕ → Entry → Option ℕ → Type 0
IsStartIn m t e None = (s : ℕ) → e.key ≡ assignment_key m s → s ≤ t → ⊥
IsStartIn m t e (Some a) = (e.key ≡ assignment_key m a) × (a ≤ t)

-- the later of two
abbrev pub later_of : Option ℕ → Option ℕ → Option ℕ
later_of None b = b
later_of (Some a) None = Some a
later_of (Some a) (Some b) = cond (nat_le a b) (Some b) (Some a)

-- ---- points
-- none of these records is a counting reading of the register from second x up to and without y
abbrev pub NoPoint : (Key → Contents) → ℕ → Register → ℕ → ℕ → List Entry → Type 0
NoPoint at m r x y some = (e : Entry) → Member e some → (s : ℕ) → e.key ≡ reading_key m r s → x ≤ s → s < y → point at m r s ≡ None

-- none: none of these records is a counting reading from second x up to and without y; some: it is such a reading,
-- and none of these records is an earlier one
abbrev pub IsEarliestAmong : (Key → Contents) → ℕ → Register → ℕ → ℕ → List Entry → Option (ℕ × ℕ) → Type 0
IsEarliestAmong at m r x y some None = NoPoint at m r x y some
IsEarliestAmong at m r x y some (Some a) = (point at m r a.0 ≡ Some a.1) × (x ≤ a.0) × (a.0 < y) × NoPoint at m r x a.0 some

-- none: a record isn't a counting reading from second x up to and without y; some: it is this one
abbrev pub IsPointIn : (Key → Contents) → ℕ → Register → ℕ → ℕ → Entry → Option (ℕ × ℕ) → Type 0
IsPointIn at m r x y e None = (s : ℕ) → e.key ≡ reading_key m r s → x ≤ s → s < y → point at m r s ≡ None
IsPointIn at m r x y e (Some a) = (e.key ≡ reading_key m r a.0) × (x ≤ a.0) × (a.0 < y) × (point at m r a.0 ≡ Some a.1)

-- the earlier of two
abbrev pub earlier_of : Option (ℕ × ℕ) → Option (ℕ × ℕ) → Option (ℕ × ℕ)
earlier_of None b = b
earlier_of (Some a) None = Some a
earlier_of (Some a) (Some b) = cond (nat_le a.0 b.0) (Some a) (Some b)

-- ---- records that stand
-- none of a list is withdrawn
abbrev pub AllStand : List Entry → Type 0
AllStand s = standing s ≡ s

-- the records of a set that stand, in their order, each once
abbrev pub AreStanding : List Entry → List Entry → Type 0
AreStanding s = Lists entry_order (λ e. Member e (standing s))

-- ---- payments
-- whether a record has cents for the account
abbrev pub pays : ℕ → Entry → Bool
pays a e = nat_le 1 (cents_for a (One e.content))

-- those of some records that do
abbrev pub paying : ℕ → List Entry → List Entry
paying a = filter (pays a)

-- ---- places in a list
-- x stands at place i
abbrev pub IsAt : {X : Type 0} → List X → ℕ → X → Type 0
IsAt xs i x = (i < length xs) × (get_or xs i x ≡ x)

-- the record behind place i has the key of the one there
abbrev pub IsKeyBehind : List Entry → ℕ → Type 0
IsKeyBehind s i = (e : Entry) × (f : Entry) × IsAt s i e × IsAt s (i + 1) f × (e.key ≡ f.key)

-- ---- records in order, and the lists of what some of them give
-- new is old, which stands in order, with one record
abbrev pub IsWith : Entry → List Entry → List Entry → Type 0
IsWith e old new = IsInOrder entry_order old → Lists entry_order (λ x. (x ≡ e) ⊎ Member x old) new

-- the records of a list in their order, each once
abbrev pub AreSorted : List Entry → List Entry → Type 0
AreSorted s = Lists entry_order (λ e. Member e s)

-- the earlier reading of a fall
abbrev pub high_reading : Fall → Entry
high_reading f = reading_entry f.meter.0 f.register f.from f.high

-- the falls of a set whose earlier reading is one of these records
abbrev pub FallsFrom : List Entry → List Entry → List Fall → Type 0
FallsFrom s some = Lists fall_order (λ f. IsFall (contents_at s) f × Member (high_reading f) some)

-- the disputes of a set under a key of these records
abbrev pub DisputesUnder : List Entry → List Entry → List Dispute → Type 0
DisputesUnder s some = Lists dispute_order (λ d. IsDispute s d × Member d.key (keys some))

-- a row is that of a reading of the register, and marked where it counts in one set and is withdrawn in another
pub record IsRowOf (s t : List Entry) (m : ℕ) (r : Register) (e : Entry) (row : ReadingRow) : Type 0 where
  pub reading : e ≡ reading_entry m r row.instant row.wh
  pub counted : IsTrue row.counted ↔ Counts s e
  pub withdrawn : row.withdrawn ≡ is_withdrawn t e

-- the rows of these records, marked so
abbrev pub RowsOf : List Entry → List Entry → ℕ → Register → List Entry → List ReadingRow → Type 0
RowsOf s t m r some =
    Lists reading_order (λ row. Member (reading_entry m r row.instant row.wh) some × (IsTrue row.counted ↔ Counts s (reading_entry m r row.instant row.wh)) ×
    (row.withdrawn ≡ is_withdrawn t (reading_entry m r row.instant row.wh)))
