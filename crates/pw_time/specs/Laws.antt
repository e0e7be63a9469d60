-- What follows from the definitions alone.
use Rattle.std.specs.Prelude.{◌≡◌, ◌≤◌, ◌<◌, ◌/◌, ◌↔◌, ℕ, pos, IsTrue, List, Result, Ok}
use Rattle.jiff_core.specs.Calendar.{days_from_civil, weekday_number}
use Rattle.pw_time.specs.declared.fault.StampFault.{StampFault}
use Rattle.pw_time.specs.declared.zone.Clock.{Clock}
use Rattle.pw_time.specs.Instants.{IsInstant}
use Rattle.pw_time.specs.Summer.{last_sunday, summer_start, summer_end, is_summer, civil_offset, local_weekday, local_hour}
use Rattle.pw_time.specs.Outcomes.{IsStampOutcome, IsUtcOutcome, IsReadoutOutcome}

-- there is an answer, and no other
pub record ExactlyOne {A : Type 0} (Is : A → Type 0) : Type 0 where
  pub answer : A
  pub holds : Is answer
  pub only : (other : A) → Is other → answer ≡ other

-- no two answers are right for a text, whatever numbers stand for its bytes
abbrev pub StampHasOneOutcome : Type 0
StampHasOneOutcome =
    (text : List ℕ) (a b : Result ℕ StampFault) → IsStampOutcome text a → IsStampOutcome text b → a ≡ b

abbrev pub UtcHasOneOutcome : Type 0
UtcHasOneOutcome =
    (text : List ℕ) (a b : Result ℕ StampFault) → IsUtcOutcome text a → IsUtcOutcome text b → a ≡ b

abbrev pub ReadoutHasOneOutcome : Type 0
ReadoutHasOneOutcome =
    (date time : List ℕ) (clock : Clock) (a b : Result ℕ StampFault)
    → IsReadoutOutcome date time clock a → IsReadoutOutcome date time clock b → a ≡ b

-- the text in UTC is one of the instant
abbrev pub IsTextOf : ℕ → List ℕ → Type 0
IsTextOf instant text = IsUtcOutcome text (Ok instant)

-- no two texts in UTC are of one instant
abbrev pub InstantHasOneText : Type 0
InstantHasOneText =
    (t : ℕ) (text other : List ℕ) → IsUtcOutcome text (Ok t) → IsUtcOutcome other (Ok t) → text ≡ other

-- the last Sunday of a month of 31 days is a Sunday, and one of the days 25 to 31
abbrev pub LastSundayIsLast : Type 0
LastSundayIsLast =
    (year month : ℕ) → 1970 ≤ year
    → (day : ℕ) × (25 ≤ day) × (day ≤ 31)
    × (pos (last_sunday year month) ≡ days_from_civil (pos year) month day)
    × (weekday_number (days_from_civil (pos year) month day) ≡ 6)

-- an instant lies in summer time exactly where the summer time of some year from 1970 on has it
abbrev pub SummerIsOfSomeYear : Type 0
SummerIsOfSomeYear =
    (t : ℕ) → IsInstant t
    → IsTrue (is_summer t) ↔ ((year : ℕ) × (1970 ≤ year) × (summer_start year ≤ t) × (t < summer_end year))

-- offset, local weekday and local hour are the same throughout an hour of UTC
abbrev pub LocalHourIsConstantWithinAnHour : Type 0
LocalHourIsConstantWithinAnHour =
    (t u : ℕ) → t / 3600 ≡ u / 3600
    → (civil_offset t ≡ civil_offset u) × (local_weekday t ≡ local_weekday u) × (local_hour t ≡ local_hour u)
