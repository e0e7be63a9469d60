-- Runs of seconds of one owner, one period and one band. It serves `src/pieces.rt` and `src/spread.rt`.
use Rattle.std.specs.Prelude.{◌≡◌, ℕ, ◌/◌, ◌%◌, ◌<◌, ◌≤◌, ◌⊎◌, Option, List, IsSome}
use Rattle.pw_tariff.specs.declared.ids.AccountId.{AccountId}
use Rattle.pw_tariff.specs.declared.pieces.Class.{Class}
use Rattle.pw_tariff.specs.declared.pieces.Run.{Run}
use Rattle.pw_tariff.specs.Owners.{start_at, owner_by_starts}
use Rattle.pw_tariff.specs.Office.{OfficeFile, period_at, band_at}

-- from a second on up to the next hour of UTC, the next start, or the end, whichever comes first: the owner stays
pub record IsPart (starts : List (ℕ × Option AccountId)) (from end until : ℕ) : Type 0 where
  pub begun : from < until
  pub within : until ≤ end
  pub hour : (t : ℕ) → from ≤ t → t < until → t / 3600 ≡ from / 3600
  pub owner : (t : ℕ) → from ≤ t → t < until → owner_by_starts starts t ≡ owner_by_starts starts from
  pub over : until < end → (until % 3600 ≡ 0) ⊎ IsSome (start_at starts until)

-- the owner, the period and the band of second t
pub record IsClassAt (office : OfficeFile) (starts : List (ℕ × Option AccountId)) (t : ℕ) (class : Class) : Type 0 where
  pub owner : class.owner ≡ owner_by_starts starts t
  pub period : class.period.0 ≡ period_at office t
  pub band : class.band.0 ≡ band_at office t

-- all seconds from one on that have its owner, period and band, up to the first that hasn't, or the end
pub record IsRun (office : OfficeFile) (starts : List (ℕ × Option AccountId)) (from end : ℕ) (run : Run) : Type 0 where
  pub begun : from < run.until
  pub within : run.until ≤ end
  pub same : (t : ℕ) → from ≤ t → t < run.until → IsClassAt office starts t run.class
  pub over : run.until < end → ¬ (IsClassAt office starts run.until run.class)
