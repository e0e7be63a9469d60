-- The forms of dates and times as text. A byte is its ASCII code: 45 is '-', 58 ':', 84 'T', 90 'Z'.
use Rattle.std.specs.Prelude.{◌≡◌, ℕ, ◌+◌, ◌/◌, ◌%◌, ◌<◌, ◌≤◌, ◌⊎◌, List, [], ◌∷◌, ◌++◌}
use Rattle.pw_time.specs.declared.civil.CivilTime.{CivilTime}

-- a number below 100 in two decimal digits
abbrev pub two_digits : ℕ → List ℕ
two_digits n = (48 + n / 10) ∷ (48 + n % 10) ∷ []

-- three such numbers, one directly after the other: 'YYMMDD' and 'hhmmss'
abbrev pub run_together : ℕ → ℕ → ℕ → List ℕ
run_together a b c = two_digits a ++ two_digits b ++ two_digits c

-- three such numbers with a byte between them: 'YY-MM-DD' and 'hh:mm:ss'
abbrev pub separated : ℕ → ℕ → ℕ → ℕ → List ℕ
separated byte a b c = two_digits a ++ (byte ∷ two_digits b) ++ (byte ∷ two_digits c)

-- a year of four digits, the others of two; the calendar isn't asked
pub record HasDigits (c : CivilTime) : Type 0 where
  pub year : c.year < 10_000
  pub month : c.month < 100
  pub day : c.day < 100
  pub hour : c.hour < 100
  pub minute : c.minute < 100
  pub second : c.second < 100

-- a year that two digits tell: 2000 to 2099
abbrev pub IsShortYear : ℕ → Type 0
IsShortYear year = (2000 ≤ year) × (year < 2100)

-- DSMR P1 Companion Standard 5.0.2, format TST of its time stamps: 'YYMMDDhhmmssX', where X is the season mark.
-- Here X is any byte: a byte that is no season mark is a refusal of its own.
pub record IsStampText (text : List ℕ) (c : CivilTime) (mark : ℕ) : Type 0 where
  pub year : IsShortYear c.year
  pub parts : HasDigits c
  pub bytes : text ≡ run_together (c.year % 100) c.month c.day ++ run_together c.hour c.minute c.second ++ (mark ∷ [])

-- The extended format of ISO 8601 in UTC: 'YYYY-MM-DDThh:mm:ssZ'.
pub record IsUtcText (text : List ℕ) (c : CivilTime) : Type 0 where
  pub parts : HasDigits c
  pub bytes : text ≡ two_digits (c.year / 100) ++ separated 45 (c.year % 100) c.month c.day
      ++ (84 ∷ separated 58 c.hour c.minute c.second) ++ (90 ∷ [])

-- The date of a data readout (IEC 62056-21; OBIS 0.9.2 of IEC 62056-6-1) is 'YYMMDD' or 'YY-MM-DD',
-- its time (OBIS 0.9.1) is 'hhmmss' or 'hh:mm:ss'.
pub record AreReadoutTexts (date time : List ℕ) (c : CivilTime) : Type 0 where
  pub year : IsShortYear c.year
  pub parts : HasDigits c
  pub date_bytes : (date ≡ run_together (c.year % 100) c.month c.day) ⊎ (date ≡ separated 45 (c.year % 100) c.month c.day)
  pub time_bytes : (time ≡ run_together c.hour c.minute c.second) ⊎ (time ≡ separated 58 c.hour c.minute c.second)
