-- What registers, meters and an office give to stretches of time. It serves `src/points.rt` and `src/energies.rt`.
-- (Definitions of this project.)
use Rattle.std.specs.Prelude.{◌≡◌, ℕ, ◌+◌, ◌*◌, ◌^◌, ◌<◌, ◌≤◌, Option, Some, None, List, [], ◌∷◌, length, slice_index}
use Rattle.pw_obis.specs.declared.reference.Register.{Register}
use Rattle.pw_tariff.specs.declared.ids.AccountId.{AccountId}
use Rattle.pw_tariff.specs.Office.{OfficeRules, office_of}
use Rattle.pw_model.specs.declared.records.Key.{Key}
use Rattle.pw_model.specs.declared.records.Contents.{Contents}
use Rattle.pw_model.specs.declared.records.TotalKey.{TotalKey}
use Rattle.pw_model.specs.declared.records.TotalKey.TheVariants.{Energy, TopUps}
use Rattle.pw_model.specs.Changes.{in_direction}
use Rattle.pw_model.specs.Counting.{contents_at}
use Rattle.pw_model.specs.Energy.{Asked, energy_where, meter_share, share_of}
use Rattle.pw_model.specs.Shelf.{ShelfContent}
use Rattle.pw_parts.specs.Changes.{gathered}
use Rattle.pw_parts.specs.declared.changes.Side.TheVariants.{Gains}
use Rattle.pw_book.specs.Cost.{HasPointsAt}
use Rattle.pw_months.specs.Between.{class_between}
use Rattle.pw_months.specs.Window.{Spans}
use Rattle.pw_bills.specs.declared.energies.SharedOut.{SharedOut}
use Rattle.pw_bills.specs.declared.gathering.Place.{Place}
use Rattle.pw_bills.specs.Reads.{IsBetween}
use Rattle.pw_bills.specs.Stretches.{end_of, first_of}
use Rattle.pw_bills.specs.inner.Gathering.{Pass}

-- ---- points
-- no point at all, or a chain of points that covers the interval
abbrev pub Covers : (ℕ → Option ℕ) → ℕ → ℕ → List (ℕ × ℕ) → Type 0
Covers told x y [] = (s : ℕ) → told s ≡ None
Covers told x y (a ∷ ps) = Spans told x y a ps

-- the points of stretches of time
abbrev pub CoversTime : (ℕ → Option ℕ) → List ℕ → ℕ → List (ℕ × ℕ) → Type 0
CoversTime told begins end ps = Covers told (first_of begins end) end ps

-- those of the register that a pass comes to
abbrev pub CoversPlace : Place → ShelfContent → List (ℕ × ℕ) → Type 0
CoversPlace place c points = CoversTime (c.point place.meter.0 place.register) place.stretches.now.begins.now (place.stretches.now.last + 1) points

abbrev pub HasPointsIn : List ℕ → ℕ → (ℕ → Option ℕ) → ℕ → Type 0
HasPointsIn begins end told most = HasPointsAt (IsBetween (first_of begins end) end) told most

-- ---- totals under the numbers of stretches
-- the energy of a stretch
abbrev pub IsOfStretch : List ℕ → TotalKey → Type 0
IsOfStretch begins (Energy (Some i) p b d) = i.0 < length begins
IsOfStretch begins (Energy None p b d) = ⊥
IsOfStretch begins (TopUps a) = ⊥

-- the seconds of a stretch with this account, period and band
abbrev pub of_stretch : OfficeRules → AccountId → List ℕ → ℕ → ℕ → ℕ → ℕ → Asked
of_stretch office a begins end i p b = class_between office (slice_index begins i) (end_of begins end i) (Some a) p b

-- what a register gives
abbrev pub register_between : OfficeRules → (Key → Contents) → AccountId → List ℕ → ℕ → ℕ → TotalKey → Register → ℕ
register_between office at a begins end m (Energy (Some i) p b d) r =
    in_direction d r (share_of office at (of_stretch office a begins end i.0 p.0 b.0) m r)
register_between office at a begins end m (Energy None p b d) r = 0
register_between office at a begins end m (TopUps o) r = 0

-- what a meter gives
abbrev pub meter_between : OfficeRules → (Key → Contents) → AccountId → List ℕ → ℕ → TotalKey → ℕ → ℕ
meter_between office at a begins end (Energy (Some i) p b d) m =
    meter_share office at d (of_stretch office a begins end i.0 p.0 b.0) m
meter_between office at a begins end (Energy None p b d) m = 0
meter_between office at a begins end (TopUps o) m = 0

-- what all meters give
abbrev pub all_between : OfficeRules → (Key → Contents) → AccountId → List ℕ → ℕ → TotalKey → ℕ
all_between office at a begins end (Energy (Some i) p b d) =
    energy_where office at d (of_stretch office a begins end i.0 p.0 b.0)
all_between office at a begins end (Energy None p b d) = 0
all_between office at a begins end (TopUps o) = 0

-- ---- what is gathered
-- a register adds what it gives to each stretch
abbrev pub AddsEnergy : Pass → ℕ → Register → SharedOut → SharedOut → Type 0
AddsEnergy q m r old new = (k : TotalKey) → IsOfStretch q.begins k →
    gathered Gains new.changes.rows k
    ≡ gathered Gains old.changes.rows k
    + register_between (office_of q.file) (contents_at q.content.records) q.account q.begins q.end m k r

-- no total is more than what so many registers can give
abbrev pub IsOfRegisters : ℕ → SharedOut → Type 0
IsOfRegisters n e = (k : TotalKey) → gathered Gains e.changes.rows k ≤ n * 2 ^ 101
