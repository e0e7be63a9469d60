-- A difference cut into pieces of one owner, one period and one band: shares are sums of what they give.
-- (Definitions of this project.)
use Rattle.std.specs.Prelude.{◌≡◌, ℕ, ◌+◌, ◌-◌, ◌<◌, ◌≤◌, Option, List, [], ◌∷◌, cond}
use Rattle.pw_flow.specs.Flow.{level}
use Rattle.pw_tariff.specs.declared.ids.AccountId.{AccountId}
use Rattle.pw_tariff.specs.declared.cells.Cell.{Cell}
use Rattle.pw_tariff.specs.declared.spread.Piece.{Piece}
use Rattle.pw_tariff.specs.declared.spread.Span.{Span}
use Rattle.pw_tariff.specs.Office.{OfficeFile, period_at, band_at}
use Rattle.pw_tariff.specs.Owners.{owner_by_starts}
use Rattle.pw_tariff.specs.Cells.{is_of}

-- the level at a second of the difference
abbrev pub level_of : Span → ℕ → ℕ
level_of span t = level span.from span.low span.to span.high t

-- the second has the owner, the period and the band of the piece
abbrev pub IsOfPiece : OfficeFile → List (ℕ × Option AccountId) → Piece → ℕ → Type 0
IsOfPiece office owners p t =
    (owner_by_starts owners t ≡ p.owner) × (period_at office t ≡ p.period.0) × (band_at office t ≡ p.band.0)

-- all its seconds are so, and the next of the span isn't; it gives the difference of the levels at its ends
pub record IsPieceOf (office : OfficeFile) (owners : List (ℕ × Option AccountId)) (span : Span)
    (p : Piece) : Type 0 where
  pub begun : p.begin < p.until
  pub within : p.until ≤ span.to
  pub same : (t : ℕ) → p.begin ≤ t → t < p.until → IsOfPiece office owners p t
  pub over : p.until < span.to → ¬ (IsOfPiece office owners p p.until)
  pub given : p.wh ≡ level_of span p.until - level_of span p.begin

-- the pieces of a span from a second on, one behind another up to its end
abbrev pub ListsPieces : OfficeFile → List (ℕ × Option AccountId) → Span → ℕ → List Piece → Type 0
ListsPieces office owners span at [] = at ≡ span.to
ListsPieces office owners span at (p ∷ ps) =
    (p.begin ≡ at) × IsPieceOf office owners span p × ListsPieces office owners span p.until ps

-- what a piece gives, as a cell
abbrev pub cell_of : Piece → Cell
cell_of p = record { owner = p.owner; period = p.period; band = p.band; wh = p.wh }

-- what pieces give an owner in a period and a band
abbrev pub given_to : Option AccountId → ℕ → ℕ → List Piece → ℕ
given_to owner period band [] = 0
given_to owner period band (p ∷ ps) =
    cond (is_of owner period band (cell_of p)) p.wh 0 + given_to owner period band ps
