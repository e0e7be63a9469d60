-- The pieces of a pair of readings, under owners cut to an interval, are rows of why.
-- (A law of this project.)
use Rattle.std.specs.Prelude.{◌≡◌, ◌*◌, ◌⊎◌, ℕ, ◌<◌, ◌≤◌, Option, Some, List, true}
use Rattle.pw_obis.specs.declared.reference.Register.{Register}
use Rattle.pw_tariff.specs.declared.ids.AccountId.{AccountId}
use Rattle.pw_tariff.specs.declared.spread.Piece.{Piece}
use Rattle.pw_tariff.specs.declared.spread.Span.{Span}
use Rattle.pw_tariff.specs.Office.{OfficeFile, OfficeRules, office_of}
use Rattle.pw_tariff.specs.Owners.{owner_by_starts}
use Rattle.pw_tariff.specs.Pieces.{ListsPieces}
use Rattle.pw_flow.specs.Flow.{AreNeighbours, pair_flow}
use Rattle.pw_model.specs.declared.records.Key.{Key}
use Rattle.pw_model.specs.declared.records.Contents.{Contents}
use Rattle.pw_model.specs.Same.{direction_of}
use Rattle.pw_model.specs.Counting.{Member, point}
use Rattle.pw_model.specs.Energy.{account, owner_at}
use Rattle.pw_months.specs.Why.{IsWhyRow, WhyRow, covers}
use Rattle.pw_months.specs.Window.{AreCut}

-- a pair of counting neighbours that don't fall, of a register that counts
pub record IsCountingPair (office : OfficeRules) (at : Key → Contents) (m : ℕ) (r : Register)
    (span : Span) : Type 0 where
  pub meter : m < office.meters
  pub counts : office.counts m r ≡ true
  pub neighbours : AreNeighbours (point at m r) span.from span.low span.to span.high
  pub rising : span.low ≤ span.high
  pub seen : span.to ≤ office.end

-- the row of a piece of a pair
abbrev pub row_of : OfficeRules → ℕ → Register → Span → Piece → WhyRow
row_of office m r span p = record {
  meter = m;
  register = r;
  from = span.from;
  low = span.low;
  to = span.to;
  high = span.high;
  begin = p.begin;
  until = p.until;
  period = p.period.0;
  band = p.band.0;
  wh = p.wh;
  nano = office.price p.period.0 p.band.0 (direction_of r) * p.wh;
}

-- each piece that gives the account something is a row, and each second of the account in the interval that carries
-- something stands in one
pub record GiveRows (office : OfficeRules) (at : Key → Contents) (m : ℕ) (r : Register) (a x y : ℕ)
    (span : Span) (ps : List Piece) : Type 0 where
  pub each : (p : Piece) → Member p ps → p.owner ≡ Some (account a) → 0 < p.wh →
      IsWhyRow office at a x y (row_of office m r span p)
  pub all : (t : ℕ) → span.from ≤ t → t < span.to → x ≤ t → t < y → owner_at at m t ≡ Some (account a) →
      (pair_flow (span.from, span.low) (span.to, span.high) t ≡ 0)
      ⊎ ((p : Piece) × Member p ps × (p.owner ≡ Some (account a)) × (0 < p.wh)
      × (covers m r t (row_of office m r span p) ≡ true))

-- so do the pieces of a counting pair, where the meter's owners are cut to the interval
abbrev pub PiecesAreRows : Type 0
PiecesAreRows = (file : OfficeFile) (at : Key → Contents) (m : ℕ) (r : Register) (a x y : ℕ)
    (starts within : List (ℕ × Option AccountId)) (span : Span) (ps : List Piece) →
    IsCountingPair (office_of file) at m r span →
    ((t : ℕ) → owner_by_starts starts t ≡ owner_at at m t) → AreCut x y starts within →
    ListsPieces file within span span.from ps → GiveRows (office_of file) at m r a x y span ps
