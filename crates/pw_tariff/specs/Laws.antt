-- What follows from the definitions alone.
use Rattle.std.specs.Prelude.{◌≡◌, ◌<◌, ◌≤◌, ◌/◌, ℕ, Option, Some, slice_get, List, Result, Ok, Err}
use Rattle.pw_time.specs.Instants.{IsInstant}
use Rattle.pw_tariff.specs.declared.ids.AccountId.{AccountId}
use Rattle.pw_tariff.specs.declared.cells.Cell.{Cell}
use Rattle.pw_tariff.specs.declared.spread.Piece.{Piece}
use Rattle.pw_tariff.specs.declared.spread.Span.{Span}
use Rattle.pw_tariff.specs.declared.fault.OfficeFault.{OfficeFault}
use Rattle.pw_tariff.specs.declared.fault.OfficeFault.TheVariants.{Memory}
use Rattle.pw_tariff.specs.Office.{OfficeFile, IsSound, period_at, period_starts, band_at, office_of}
use Rattle.pw_tariff.specs.Cells.{energy_in}
use Rattle.pw_tariff.specs.Shares.{AreShares, share}
use Rattle.pw_tariff.specs.Pieces.{ListsPieces, given_to}
use Rattle.pw_tariff.specs.Text.{IsOfficeOf, IsRefused}

-- period and band are the same throughout an hour of UTC
pub record AreOfOneHour (file : OfficeFile) (t u : ℕ) : Type 0 where
  pub period : period_at file t ≡ period_at file u
  pub band : band_at file t ≡ band_at file u

abbrev pub BandIsConstantWithinAnHour : Type 0
BandIsConstantWithinAnHour = (file : OfficeFile) → IsSound file → (t u : ℕ) → t / 3600 ≡ u / 3600 → AreOfOneHour file t u

-- the period of an instant is the one with the latest start that isn't later
pub record IsLatestPeriod (file : OfficeFile) (t period : ℕ) : Type 0 where
  pub begun : (start : ℕ) × (slice_get (period_starts file) period ≡ Some start) × (start ≤ t)
  pub latest : (other start : ℕ) → slice_get (period_starts file) other ≡ Some start → start ≤ t → other ≤ period

abbrev pub PeriodIsTheLatest : Type 0
PeriodIsTheLatest = (file : OfficeFile) → IsSound file → (t : ℕ) → IsInstant t → IsLatestPeriod file t (period_at file t)

-- the band of each second is one of the office's, and so is its period
pub record AreOfTheOffice (file : OfficeFile) (t : ℕ) : Type 0 where
  pub band : (office_of file).band t < (office_of file).bands
  pub period : (office_of file).period t < (office_of file).periods

abbrev pub BandsAreOfTheOffice : Type 0
BandsAreOfTheOffice = (file : OfficeFile) → IsSound file → (t : ℕ) → AreOfTheOffice file t

-- what a text is answered; want of memory is no answer
abbrev pub IsAnswer : List ℕ → Result OfficeFile OfficeFault → Type 0
IsAnswer text (Ok file) = IsOfficeOf text file
IsAnswer text (Err Memory) = ⊥
IsAnswer text (Err fault) = IsRefused text fault

-- a text has an answer, the office or a refusal, and no other one
pub record HasOneAnswer (text : List ℕ) : Type 0 where
  pub answer : Result OfficeFile OfficeFault
  pub is_answer : IsAnswer text answer
  pub only : (other : Result OfficeFile OfficeFault) → IsAnswer text other → other ≡ answer

-- so has each text
abbrev pub TextHasOneAnswer : Type 0
TextHasOneAnswer = (text : List ℕ) → HasOneAnswer text

-- the office of a text is sound
abbrev pub OfficeOfTextIsSound : Type 0
OfficeOfTextIsSound = (text : List ℕ) (file : OfficeFile) → IsOfficeOf text file → IsSound file

-- a difference isn't shared out in two ways
abbrev pub SharesAreUnique : Type 0
SharesAreUnique =
    (file : OfficeFile) (owners : List (ℕ × Option AccountId)) (span : Span) (a b : List Cell)
    → AreShares file owners span a → AreShares file owners span b → a ≡ b

-- what the pieces of a difference give to an owner in a period and a band is its share, and so the
-- energy of its cell
pub record GiveTheShares (office : OfficeFile) (owners : List (ℕ × Option AccountId)) (span : Span)
    (ps : List Piece) : Type 0 where
  pub shares : (owner : Option AccountId) (period band : ℕ) →
      given_to owner period band ps ≡ share office owners span owner period band
  pub cells : (cells : List Cell) → AreShares office owners span cells →
      (owner : Option AccountId) (period band : ℕ) →
      energy_in cells owner period band ≡ given_to owner period band ps

abbrev pub PiecesAreShares : Type 0
PiecesAreShares =
    (office : OfficeFile) (owners : List (ℕ × Option AccountId)) (span : Span) (ps : List Piece)
    → span.from < span.to → span.low ≤ span.high → ListsPieces office owners span span.from ps
    → GiveTheShares office owners span ps

-- a difference isn't cut into pieces in two ways
abbrev pub PiecesAreUnique : Type 0
PiecesAreUnique =
    (office : OfficeFile) (owners : List (ℕ × Option AccountId)) (span : Span) (ps qs : List Piece)
    → ListsPieces office owners span span.from ps → ListsPieces office owners span span.from qs
    → ps ≡ qs
