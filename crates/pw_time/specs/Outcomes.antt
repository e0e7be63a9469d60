-- What a text of a date and a time is answered: the instant, or the first refusal in the order
-- Form, Mark, NoSuchDate, NoSuchTime, Gap or Fold, Range.
use Rattle.std.specs.Prelude.{◌≡◌, ◌≢◌, ℕ, List, ◌⊎◌, ℤ, pos, negsuc, ◌+ℤ◌, Result, Ok, Err}
use Rattle.pw_time.specs.declared.civil.CivilTime.{CivilTime}
use Rattle.pw_time.specs.declared.fault.StampFault.{StampFault}
use Rattle.pw_time.specs.declared.fault.StampFault.TheVariants.{Form, NoSuchDate, NoSuchTime, Mark, Range, Gap, Fold}
use Rattle.pw_time.specs.declared.zone.Clock.{Clock}
use Rattle.pw_time.specs.declared.zone.Clock.TheVariants.{Marked, Winter, Local}
use Rattle.pw_time.specs.Instants.{IsInstant}
use Rattle.pw_time.specs.Civil.{HasDate, HasTime, civil_second}
use Rattle.pw_time.specs.Texts.{IsStampText, IsUtcText, AreReadoutTexts}
use Rattle.pw_time.specs.Summer.{civil_offset}

-- A clock is told by how many seconds it is ahead of UTC at each second, counted from
-- 1970-01-01T00:00:00Z.

-- one that is always that many seconds ahead
abbrev pub always : ℕ → ℤ → ℕ
always seconds t = seconds

-- the local clock of Central Europe; outside the years 2000 to 2099 it counts as one hour ahead
abbrev pub central : ℤ → ℕ
central (pos t) = civil_offset t
central (negsuc _) = 3600

-- at the second t the clock shows this civil time
abbrev pub Shows : (ℤ → ℕ) → CivilTime → ℤ → Type 0
Shows ahead c t = t +ℤ pos (ahead t) ≡ civil_second c

-- and it shows it at no other second
abbrev pub ShowsOnce : (ℤ → ℕ) → CivilTime → ℤ → Type 0
ShowsOnce ahead c t = Shows ahead c t × ((other : ℤ) → Shows ahead c other → other ≡ t)

-- the calendar has the date, and a day the time
abbrev pub Exists : CivilTime → Type 0
Exists c = HasDate c × HasTime c

-- the refusal of a civil time that doesn't exist: its date is told before its time of day
abbrev pub IsMissing : CivilTime → StampFault → Type 0
IsMissing c NoSuchDate = ¬ (HasDate c)
IsMissing c NoSuchTime = HasDate c × ¬ (HasTime c)
IsMissing c _ = ⊥

-- what a civil time is answered, by a clock that is told by `ahead`: the one second at which the clock
-- shows it; never is a gap, twice a fold; a second that is no instant is out of range
abbrev pub IsCivilOutcome : (ℤ → ℕ) → CivilTime → Result ℕ StampFault → Type 0
IsCivilOutcome ahead c (Ok t) = Exists c × ShowsOnce ahead c (pos t) × IsInstant t
IsCivilOutcome ahead c (Err Gap) = Exists c × ((t : ℤ) → ¬ (Shows ahead c t))
IsCivilOutcome ahead c (Err Fold) =
    Exists c × ((t : ℤ) × (later : ℤ) × Shows ahead c t × Shows ahead c later × (t ≢ later))
IsCivilOutcome ahead c (Err Range) =
    Exists c × ((t : ℤ) × ShowsOnce ahead c t × ((instant : ℕ) → IsInstant instant → pos instant ≢ t))
IsCivilOutcome ahead c (Err fault) = IsMissing c fault

-- the season mark: 'S' (83) is summer time, two hours ahead of UTC, and 'W' (87) winter time, one hour ahead
abbrev pub IsSeasonMark : ℕ → ℕ → Type 0
IsSeasonMark mark ahead = ((mark ≡ 83) × (ahead ≡ 7200)) ⊎ ((mark ≡ 87) × (ahead ≡ 3600))

-- what a stamp is answered
abbrev pub IsStampOutcome : List ℕ → Result ℕ StampFault → Type 0
IsStampOutcome text (Err Form) = (c : CivilTime) (mark : ℕ) → ¬ (IsStampText text c mark)
IsStampOutcome text (Err Mark) =
    (c : CivilTime) × (mark : ℕ) × IsStampText text c mark × ((ahead : ℕ) → ¬ (IsSeasonMark mark ahead))
IsStampOutcome text result =
    (c : CivilTime) × (mark : ℕ) × (ahead : ℕ) × IsStampText text c mark × IsSeasonMark mark ahead
    × IsCivilOutcome (always ahead) c result

-- what a text in UTC is answered
abbrev pub IsUtcOutcome : List ℕ → Result ℕ StampFault → Type 0
IsUtcOutcome text (Err Form) = (c : CivilTime) → ¬ (IsUtcText text c)
IsUtcOutcome text result = (c : CivilTime) × IsUtcText text c × IsCivilOutcome (always 0) c result

-- how far the clock of a meter is ahead; of a clock that marks its times nothing is known without the mark
abbrev pub IsReadoutClock : Clock → (ℤ → ℕ) → Type 0
IsReadoutClock Marked ahead = ⊥
IsReadoutClock Winter ahead = ahead ≡ always 3600
IsReadoutClock Local ahead = ahead ≡ central

-- what the date and the time of a readout are answered
abbrev pub IsReadoutOutcome : List ℕ → List ℕ → Clock → Result ℕ StampFault → Type 0
IsReadoutOutcome date time clock (Err Form) = (c : CivilTime) → ¬ (AreReadoutTexts date time c)
IsReadoutOutcome date time clock (Err Mark) =
    ((c : CivilTime) × AreReadoutTexts date time c) × (clock ≡ Marked)
IsReadoutOutcome date time clock result =
    (c : CivilTime) × (ahead : ℤ → ℕ) × AreReadoutTexts date time c × IsReadoutClock clock ahead
    × IsCivilOutcome ahead c result
