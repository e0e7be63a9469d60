-- What an upload has gathered, and not yet written, and the starts that it knows. It serves `src/gathered.rt`,
-- `src/moving.rt`, `src/reading_change.rt`, `src/settling.rt` and `src/upload.rt`.
-- (Definitions of this project.)
use Rattle.std.specs.Prelude.{◌≡◌, ℕ, ◌+◌, ◌*◌, ◌<◌, ◌≤◌, Option, Some, List, [], ◌∷◌}
use Rattle.std.specs.BTreeMap.{BTreeMap}
use Rattle.pw_tariff.specs.declared.ids.AccountId.{AccountId}
use Rattle.pw_tariff.specs.declared.ids.MeterId.{MeterId}
use Rattle.pw_tariff.specs.Office.{OfficeRules}
use Rattle.pw_model.specs.declared.records.Key.{Key}
use Rattle.pw_model.specs.declared.records.Contents.{Contents}
use Rattle.pw_model.specs.declared.records.Entry.{Entry}
use Rattle.pw_model.specs.declared.records.TotalKey.{TotalKey}
use Rattle.pw_model.specs.Counting.{contents_at, point, start}
use Rattle.pw_model.specs.Seconds.{ListsSeconds}
use Rattle.pw_model.specs.Shelf.{ShelfContent, total_among}
use Rattle.pw_parts.specs.Changes.{gathered}
use Rattle.pw_parts.specs.declared.changes.Change.{Change}
use Rattle.pw_parts.specs.declared.changes.Changes.{Changes}
use Rattle.pw_parts.specs.declared.changes.Side.{Side}
use Rattle.pw_parts.specs.declared.changes.Side.TheVariants.{Loses, Gains}
use Rattle.pw_book.specs.Cost.{classes_of}
use Rattle.pw_book.specs.declared.gathered.KnownStarts.{KnownStarts}
use Rattle.pw_book.specs.inner.Moves.{OfOwners}
use Rattle.pw_book.specs.inner.Sums.{energy_told}

-- points and starts are those of a list of records; so are the totals, when the energies of the office have lost and
-- gained what is gathered
pub record IsTrueBut (office : OfficeRules) (rows : BTreeMap TotalKey Change) (s : List Entry) (c : ShelfContent) : Type 0 where
  pub points : c.point ≡ point (contents_at s)
  pub starts : c.start ≡ start (contents_at s)
  pub energies : (k : TotalKey) → OfOwners office.periods office.bands office.accounts k →
      c.total k + gathered Gains rows k ≡ total_among office s k + gathered Loses rows k
  pub others : (k : TotalKey) → (OfOwners office.periods office.bands office.accounts k → ⊥) → c.total k ≡ total_among office s k

-- it is so again, of the same records
pub record IsTrueAgainBut (office : OfficeRules) (rows : BTreeMap TotalKey Change) (old new : ShelfContent) : Type 0 where
  pub truth : IsTrueBut office rows new.records new
  pub records : new.records ≡ old.records

-- from one telling of what counts to another, each energy loses and gains what is gathered more
abbrev pub AreGathered : OfficeRules → (Key → Contents) → (Key → Contents) → BTreeMap TotalKey Change → BTreeMap TotalKey Change → Type 0
AreGathered office was is old new = (k : TotalKey) →
    energy_told office was k + gathered Gains new k + gathered Loses old k ≡ energy_told office is k + gathered Loses new k + gathered Gains old k

-- of each total less than a bound is gathered on each side
abbrev pub IsGatheredBelow : ℕ → Changes → Type 0
IsGatheredBelow bound changes = (side : Side) (k : TotalKey) → gathered side changes.rows k < bound

-- of each total no more than so much is gathered anew on each side
abbrev pub GathersAtMost : ℕ → Changes → Changes → Type 0
GathersAtMost most old new = (side : Side) (k : TotalKey) → gathered side new.rows k ≤ gathered side old.rows k + most

-- how many calls and rows are enough to write what is gathered, where something is: of each energy of the office it is
-- asked, with a row, and put
abbrev pub due : OfficeRules → List (TotalKey × Change) → ℕ
due office [] = 0
due office (e ∷ es) = 6 * classes_of office

-- the starts that are known of a meter, if of one, are those that are kept of it
abbrev pub AreKnown : (ℕ → ℕ → Option (Option AccountId)) → KnownStarts → Type 0
AreKnown start known = (m : MeterId) → known.meter ≡ Some m → ListsSeconds (start m.0) known.starts.items
