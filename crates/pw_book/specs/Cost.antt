-- How many calls of the store and rows an upload takes.
-- (A promise of this project: whatever the number of records.)
use Rattle.std.specs.Prelude.{◌≡◌, ℕ, ◌+◌, ◌*◌, ◌<◌, ◌≤◌, Option, None, Some, List, [], ◌∷◌, length}
use Rattle.pw_obis.specs.declared.reference.Register.{Register}
use Rattle.pw_tariff.specs.declared.ids.AccountId.{AccountId}
use Rattle.pw_tariff.specs.declared.ids.Direction.TheVariants.{Import, Export}
use Rattle.pw_tariff.specs.Office.{OfficeRules}
use Rattle.pw_model.specs.declared.records.Key.{Key}
use Rattle.pw_model.specs.declared.records.Key.TheVariants as key
use Rattle.pw_model.specs.declared.records.Entry.{Entry}
use Rattle.pw_model.specs.Bearing.{bears_on}
use Rattle.pw_model.specs.Counting.{Member, SameMembers}
use Rattle.pw_model.specs.Energy.{over_registers}
use Rattle.pw_model.specs.Kinds.{IsReading, IsTopUp}
use Rattle.pw_model.specs.Lists.{IsInOrder, record_count}
use Rattle.pw_model.specs.Shelf.{ShelfContent}
use Rattle.pw_model.specs.Seconds.{ListsSeconds, by_second}

-- the totals of energy of a direction: one for each period and band, of nobody and of each account
abbrev pub classes_of : OfficeRules → ℕ
classes_of office = office.periods * office.bands * (office.accounts + 1)

-- a meter has so many counting starts at most
abbrev pub HasStarts : ShelfContent → ℕ → ℕ → Type 0
HasStarts c m most = (starts : List (ℕ × Option AccountId)) → ListsSeconds (c.start m) starts → length starts ≤ most

-- so many calls and rows more
abbrev pub RisesAtMost : ℕ → ℕ → ℕ → Type 0
RisesAtMost most old new = new ≤ old + most

-- ---- readings
-- the meter of a reading has so many counting starts at most
abbrev pub HasStartsOf : ShelfContent → ℕ → Key → Type 0
HasStartsOf c most (key.Reading m r t) = HasStarts c m.0 most
HasStartsOf c most _ = Unit {0}

-- each of the entries is a reading or the withdrawal of one, and its meter has so many counting starts at most
abbrev pub AreReadingsWith : ShelfContent → ℕ → List Entry → Type 0
AreReadingsWith c most entries = (e : Entry) → Member e entries → IsReading (bears_on e) × HasStartsOf c most (bears_on e)

-- ---- top-ups
-- each of the entries is a top-up or the withdrawal of one
abbrev pub AreTopUps : List Entry → Type 0
AreTopUps entries = (e : Entry) → Member e entries → IsTopUp (bears_on e)

-- ---- assignments
-- from one second on, and before each counting start of the meter behind it
abbrev pub IsBeforeNextStart : ShelfContent → ℕ → ℕ → ℕ → Type 0
IsBeforeNextStart c m from t = (s : ℕ) → from < s → s ≤ t → c.start m s ≡ None

abbrev pub IsUpToNextStart : ShelfContent → ℕ → ℕ → ℕ → Type 0
IsUpToNextStart c m from t = (from ≤ t) × IsBeforeNextStart c m from t

-- a register has so many points at most at the seconds asked for: no list of them is longer
abbrev pub HasPointsAt : (ℕ → Type 0) → (ℕ → Option ℕ) → ℕ → Type 0
HasPointsAt asked told most = (points : List (ℕ × ℕ)) → IsInOrder by_second points →
    ((a : ℕ × ℕ) → Member a points → asked a.0 × (told a.0 ≡ Some a.1)) → length points ≤ most

-- so has a meter, over its six registers
pub record HasPoints (asked : ℕ → Type 0) (c : ShelfContent) (m most : ℕ) : Type 0 where
  pub each : Register → ℕ
  pub few : (r : Register) → HasPointsAt asked (c.point m r) (each r)
  pub all : over_registers Import each + over_registers Export each ≤ most

-- the meter of an assignment has so many counting starts at most, and so many points from the assignment's start up to the
-- next counting start
abbrev pub IsAssignmentUpToNext : ShelfContent → ℕ → ℕ → Key → Type 0
IsAssignmentUpToNext c starts points (key.Assignment m t) = HasStarts c m.0 starts × HasPoints (IsUpToNextStart c m.0 t) c m.0 points
IsAssignmentUpToNext c starts points _ = ⊥

-- the meter of an assignment has so many counting starts at most, and so many points at any time
abbrev pub IsAssignmentWith : ShelfContent → ℕ → ℕ → Key → Type 0
IsAssignmentWith c starts points (key.Assignment m t) = HasStarts c m.0 starts × HasPoints (λ t. Unit {0}) c m.0 points
IsAssignmentWith c starts points _ = ⊥

-- each of the entries is such an assignment or the withdrawal of one
abbrev pub AreAssignmentsWith : ShelfContent → ℕ → ℕ → List Entry → Type 0
AreAssignmentsWith c starts points entries = (e : Entry) → Member e entries → IsAssignmentWith c starts points (bears_on e)

-- ---- records of any kinds
-- so many calls and rows are no fewer than the bound of one record of this kind, where its meter may have as many starts
-- more as the upload has entries: of a reading, of an assignment with all points of its meter, of a top-up
abbrev pub IsBoundOf : OfficeRules → ShelfContent → ℕ → ℕ → Key → Type 0
IsBoundOf office c count most (key.Reading m r t) =
    (starts : ℕ) × HasStarts c m.0 starts × (24 + 4 * (starts + count + 1) + 6 * classes_of office ≤ most)
IsBoundOf office c count most (key.Assignment m t) =
    (starts : ℕ) × (points : ℕ) × HasStarts c m.0 starts × HasPoints (λ t. Unit {0}) c m.0 points × (56 + 4 * (starts + count + 1) + 2 * points + 12 * classes_of office ≤ most)
IsBoundOf office c count most _ = 24 ≤ most

-- so they are for each of the entries; for a withdrawal by the record that it names
abbrev pub AreBoundsOf : OfficeRules → ShelfContent → ℕ → List Entry → Type 0
AreBoundsOf office c most entries = (e : Entry) → Member e entries → IsBoundOf office c (record_count entries) most (bears_on e)

-- ---- an upload
-- of so many entries, counted once each: readings by the starts and the totals of a direction; one assignment by these and
-- the points of its time, several by these and all points of a meter; top-ups by their number; an empty upload by a
-- constant; withdrawals as the records that they name; records of any kinds by the greatest of their bounds
pub record IsCheap (office : OfficeRules) (entries : List Entry) (c : ShelfContent) (old new : ℕ) : Type 0 where
  pub readings : (starts : ℕ) → 1 ≤ record_count entries → AreReadingsWith c starts entries →
      RisesAtMost (record_count entries * (24 + 4 * (starts + 1) + 6 * classes_of office)) old new
  pub assignment : (e : Entry) (starts points : ℕ) → SameMembers entries (e ∷ []) → IsAssignmentUpToNext c starts points (bears_on e) →
      RisesAtMost (56 + 4 * (starts + 1) + 2 * points + 12 * classes_of office) old new
  pub assignments : (starts points : ℕ) → 1 ≤ record_count entries → AreAssignmentsWith c starts points entries →
      RisesAtMost (record_count entries * (56 + 4 * (starts + record_count entries + 1) + 2 * points + 12 * classes_of office)) old new
  pub several : (most : ℕ) → 1 ≤ record_count entries → AreBoundsOf office c most entries → RisesAtMost (record_count entries * most) old new
  pub top_ups : 1 ≤ record_count entries → AreTopUps entries → RisesAtMost (record_count entries * 24) old new
  pub nothing : entries ≡ [] → RisesAtMost 24 old new
