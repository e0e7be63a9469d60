-- How many calls of the store and rows a question on stretches of time takes.
-- (A promise of this project: whatever the number of records.)
use Rattle.std.specs.Prelude.{◌≡◌, ℕ, ◌+◌, ◌<◌, ◌≤◌, Some}
use Rattle.pw_tariff.specs.Office.{OfficeRules, office_of}
use Rattle.pw_tariff.specs.Owners.{owner_from}
use Rattle.pw_flow.specs.Time.{last, sum_over}
use Rattle.pw_model.specs.Energy.{account}
use Rattle.pw_model.specs.Shelf.{ShelfContent}
use Rattle.pw_shelf.specs.declared.shelf.Shelf.{Ghosts}
use Rattle.pw_book.specs.declared.book.Book.{Book}
use Rattle.pw_book.specs.Cost.{HasPoints, HasStarts, RisesAtMost}

-- a second of the interval
abbrev pub IsBetween : ℕ → ℕ → ℕ → Type 0
IsBetween x y t = (x ≤ t) × (t < y)

-- the meter is the account's at a second of the interval
abbrev pub IsOwned : ShelfContent → ℕ → ℕ → ℕ → ℕ → Type 0
IsOwned c a x y m = (t : ℕ) × IsBetween x y t × (owner_from (last (c.start m) t) ≡ Some (account a))

-- so many calls and rows are enough for a meter: one call, and its counting starts; and where it is the account's in the
-- interval, five for each of four registers (three calls, and a neighbour at both sides), and its points in the interval
pub record IsEnoughFor (c : ShelfContent) (a x y m most : ℕ) : Type 0 where
  pub starts : ℕ
  pub few : HasStarts c m starts
  pub asked : 1 + starts ≤ most
  pub owned : IsOwned c a x y m → (points : ℕ) × HasPoints (IsBetween x y) c m points × (21 + starts + points ≤ most)

-- so many are, meter by meter
abbrev pub AreEnoughFor : OfficeRules → ShelfContent → ℕ → ℕ → ℕ → (ℕ → ℕ) → Type 0
AreEnoughFor office c a x y most = (m : ℕ) → m < office.meters → IsEnoughFor c a x y m (most m)

-- those of all meters
abbrev pub all_meters : OfficeRules → (ℕ → ℕ) → ℕ
all_meters office most = sum_over most 0 office.meters

-- a question on an account in an interval takes no more than is enough for all meters, where the store has returned what
-- was written
abbrev pub CostsMeters : {S : Type 0} (shelf : Ghosts S) → ℕ → ℕ → ℕ → Book S shelf → Book S shelf → Type 0
CostsMeters shelf a x y old new = shelf.clean new.shelf → (most : ℕ → ℕ) →
    AreEnoughFor (office_of old.office) (shelf.state old.shelf).content a x y most →
    RisesAtMost (all_meters (office_of old.office) most) (shelf.state old.shelf).tally (shelf.state new.shelf).tally
