-- What follows in points, starts and totals where one record more is held. It serves `src/reading_change.rt`, `src/start_change.rt` and
-- `src/settling.rt`.
-- (Definitions of this project.)
use Rattle.std.specs.Prelude.{◌≡◌, ℕ, ◌+◌, ◌<◌, ◌≤◌, ◌⊎◌, true, Option, None, Some, List, length}
use Rattle.pw_obis.specs.declared.reference.Register.{Register}
use Rattle.pw_tariff.specs.declared.ids.AccountId.{AccountId}
use Rattle.pw_tariff.specs.Office.{OfficeFile, OfficeRules, counts_at}
use Rattle.pw_tariff.specs.Owners.{owner_by_starts}
use Rattle.pw_time.specs.declared.instant.TheConstants.{END_SECOND, LAST_SECOND}
use Rattle.pw_model.specs.declared.records.Key.{Key}
use Rattle.pw_model.specs.declared.records.Contents.{Contents}
use Rattle.pw_model.specs.declared.records.TotalKey.{TotalKey}
use Rattle.pw_model.specs.declared.records.TotalKey.TheVariants.{Energy, TopUps}
use Rattle.pw_model.specs.Changes.{IsOtherStart, in_direction}
use Rattle.pw_model.specs.Counting.{point, start}
use Rattle.pw_model.specs.Energy.{of_class, owner_at, share_of}
use Rattle.pw_model.specs.Lists.{Lists}
use Rattle.pw_model.specs.Shelf.{ShelfContent}
use Rattle.pw_model.specs.Seconds.{by_second}
use Rattle.pw_shelf.specs.Seconds.{IsBefore, IsBehind, ListsSecondsWithin}
use Rattle.pw_book.specs.Cost.{IsBeforeNextStart}
use Rattle.pw_book.specs.declared.reading_change.ReadingAt.{ReadingAt}
use Rattle.pw_book.specs.inner.Moves.{OfOwners, most_total}
use Rattle.pw_book.specs.inner.Sums.{energy_told}

-- the energies that were those of the one are those of the other, and no records and no other totals are changed
pub record IsSettled (office : OfficeRules) (was is : Key → Contents) (old new : ShelfContent) : Type 0 where
  pub records : new.records ≡ old.records
  pub energies : (k : TotalKey) → OfOwners office.periods office.bands office.accounts k → old.total k ≡ energy_told office was k → energy_told office is k ≤ most_total →
      new.total k ≡ energy_told office is k
  pub elsewhere : (k : TotalKey) → (OfOwners office.periods office.bands office.accounts k → ⊥) → new.total k ≡ old.total k

-- the register of a reading counts at its meter
abbrev pub CountsAtMeter : OfficeFile → ReadingAt → Type 0
CountsAtMeter file reading = counts_at file reading.meter.0 reading.register ≡ true

-- the points of a register all lie before the end of all instants
abbrev pub EndsBefore : ℕ → (ℕ → Option ℕ) → Type 0
EndsBefore end told = (t w : ℕ) → told t ≡ Some w → t < end

-- ---- how much is read
-- the points of a register from a second up to the meter's next start
abbrev pub ListsUpToNextStart : ShelfContent → ℕ → Register → ℕ → List (ℕ × ℕ) → Type 0
ListsUpToNextStart c m r from = Lists by_second (λ a. (from ≤ a.0) × IsBeforeNextStart c m from a.0 × (c.point m r a.0 ≡ Some a.1))

-- each register of a meter has so many points at most from a second up to the meter's next start
abbrev pub HavePoints : ShelfContent → ℕ → ℕ → (Register → ℕ) → Type 0
HavePoints c m from most = (r : Register) (points : List (ℕ × ℕ)) → ListsUpToNextStart c m r from points → length points ≤ most r

-- the points from one second up to another, and the one before them and the one behind them, where there is one
pub record IsOver (from until : ℕ) (told : ℕ → Option ℕ) (before : Option (ℕ × ℕ)) (within : List (ℕ × ℕ)) (after : Option (ℕ × ℕ)) : Type 0 where
  pub before_is : IsBefore told from before
  pub within_is : ListsSecondsWithin from until told within
  pub after_is : IsBehind told until after

-- ---- the time that a start decides on
-- the last second before the next start behind a second: the last instant where none stands behind it
pub record EndsBeforeNext {X : Type 0} (told : ℕ → Option X) (from until : ℕ) : Type 0 where
  pub rises : from ≤ until
  pub none : (s : ℕ) → from < s → s ≤ until → told s ≡ None
  pub next : ((a : X) × (told (until + 1) ≡ Some a)) ⊎ (until ≡ LAST_SECOND)

-- a meter has another start at from, and these owners before and after; its points, all before the end, are those kept
pub record IsStartChanged (c : ShelfContent) (was is : Key → Contents) (m from until : ℕ) (owners others : List (ℕ × Option AccountId)) : Type 0 where
  pub other : IsOtherStart was is m from
  pub window : EndsBeforeNext (start was m) from until
  pub before : (t : ℕ) → owner_by_starts owners t ≡ owner_at was m t
  pub after : (t : ℕ) → owner_by_starts others t ≡ owner_at is m t
  pub points : (r : Register) → c.point m r ≡ point was m r
  pub ended : (r : Register) → EndsBefore END_SECOND (point was m r)

-- what a register gives to a total, where what counts is told by keys
abbrev pub register_told : OfficeRules → (Key → Contents) → ℕ → TotalKey → Register → ℕ
register_told office at m (Energy o p b d) r = in_direction d r (share_of office at (of_class office o p.0 b.0) m r)
register_told office at m (TopUps a) r = 0
