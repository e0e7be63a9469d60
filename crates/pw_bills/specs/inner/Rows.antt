-- The rows of why, as far as a pass over meters, registers and seconds has come. It serves `src/pieces.rt` and
-- `src/reasons.rt`.
-- (Definitions of this project.)
use Rattle.std.specs.Prelude.{◌≡◌, ◌⊎◌, ◌&&◌, ℕ, ◌+◌, ◌<◌, ◌≤◌, nat_lt, Bool, true, Some, List, [], ◌∷◌, ◌++◌, map}
use Rattle.std.specs.List.{filter}
use Rattle.pw_obis.specs.declared.reference.Register.{Register}
use Rattle.pw_flow.specs.Flow.{flow}
use Rattle.pw_tariff.specs.declared.ids.AccountId.{AccountId}
use Rattle.pw_tariff.specs.declared.ids.MeterId.{MeterId}
use Rattle.pw_tariff.specs.declared.spread.Piece.{Piece}
use Rattle.pw_tariff.specs.declared.spread.Span.{Span}
use Rattle.pw_tariff.specs.Office.{OfficeFile, OfficeRules, office_of, register_place}
use Rattle.pw_tariff.specs.Owners.{same_owner}
use Rattle.pw_tariff.specs.Pieces.{ListsPieces}
use Rattle.pw_model.specs.declared.records.Key.{Key}
use Rattle.pw_model.specs.declared.records.Contents.{Contents}
use Rattle.pw_model.specs.Counting.{Member, contents_at, point}
use Rattle.pw_model.specs.Energy.{account, owner_at}
use Rattle.pw_months.specs.Why.{IsWhyRow, covers}
use Rattle.pw_bills.specs.declared.reasons.Reasons.{Reasons}
use Rattle.pw_bills.specs.declared.reasons.WhyPiece.{WhyPiece}
use Rattle.pw_bills.specs.Why.{row_told}
use Rattle.pw_bills.specs.inner.Gathering.{Pass}
use Rattle.pw_bills.specs.inner.Naming.{OwnerStart}

-- ---- what pairs of points give, under owners that name one stretch
-- it is of the stretch, and gives something
abbrev pub gives_something : Piece → Bool
gives_something p = same_owner p.owner (Some (account 0)) && nat_lt 0 p.wh

-- a piece, as the account's
abbrev pub piece_of : AccountId → Piece → Piece
piece_of a p =
    record { begin = p.begin; until = p.until; owner = Some a; period = p.period; band = p.band; wh = p.wh }

abbrev pub why_of : AccountId → MeterId → Register → Span → Piece → WhyPiece
why_of a m r span p = record { meter = m; register = r; span = span; piece = piece_of a p }

-- of the pieces of a pair those that give the account something
abbrev pub GivenBy : OfficeFile → List OwnerStart → AccountId → MeterId → Register → Span → List WhyPiece → Type 0
GivenBy file owners a m r span given =
    (ps : List Piece) × ListsPieces file owners span span.from ps × (given ≡ map (why_of a m r span) (filter gives_something ps))

abbrev pub span_of : ℕ × ℕ → ℕ × ℕ → Span
span_of p q = record { from = p.0; to = q.0; low = p.1; high = q.1 }

-- none of them where the points fall
abbrev pub GivenBetween : OfficeFile → List OwnerStart → AccountId → MeterId → Register → ℕ × ℕ → ℕ × ℕ →
    List WhyPiece → Type 0
GivenBetween file owners a m r p q given =
    ((p.1 ≤ q.1) × GivenBy file owners a m r (span_of p q) given) ⊎ ((q.1 < p.1) × (given ≡ []))

-- of all neighbours in a list of points
abbrev pub GivenByPoints : OfficeFile → List OwnerStart → AccountId → MeterId → Register → List (ℕ × ℕ) →
    List WhyPiece → Type 0
GivenByPoints file owners a m r [] given = given ≡ []
GivenByPoints file owners a m r (p ∷ []) given = given ≡ []
GivenByPoints file owners a m r (p ∷ q ∷ ps) given =
    (one : List WhyPiece) × (others : List WhyPiece) × GivenBetween file owners a m r p q one
    × GivenByPoints file owners a m r (q ∷ ps) others × (given ≡ one ++ others)

-- such rows stand behind those before
abbrev pub Adds : (List WhyPiece → Type 0) → List WhyPiece → List WhyPiece → Type 0
Adds P old new = (given : List WhyPiece) × P given × (new ≡ old ++ given)

-- ---- how far the pass has come: up to a meter, the place of a register, and a second of it
-- up to a second of a register, then up to another place too
abbrev pub IsUpTo : ℕ → ℕ → ℕ → ℕ → ℕ → ℕ → Type 0
IsUpTo n q s m i t = (n < m) ⊎ ((n ≡ m) × ((q < i) ⊎ ((q ≡ i) × (s ≤ t))))

-- a row of the account that ends before a place
pub record IsRowUpTo (office : OfficeRules) (at : Key → Contents) (a : AccountId) (x y m i t : ℕ)
    (w : WhyPiece) : Type 0 where
  pub row : IsWhyRow office at a.0 x y (row_told office w)
  pub own : w.piece.owner ≡ Some a
  pub ended : IsUpTo w.meter.0 (register_place w.register) w.piece.until m i t

-- each ends before the next one begins
abbrev pub AreApart : List WhyPiece → Type 0
AreApart [] = Unit {0}
AreApart (v ∷ ws) =
    ((w : WhyPiece) → Member w ws → IsUpTo v.meter.0 (register_place v.register) v.piece.until w.meter.0
    (register_place w.register) w.piece.begin)
    × AreApart ws

-- a second of a register carries nothing, or stands in a row
abbrev pub IsTold : OfficeRules → (Key → Contents) → List WhyPiece → ℕ → Register → ℕ → Type 0
IsTold office at ws n r s =
    (flow (point at n r) office.end s ≡ 0)
    ⊎ ((w : WhyPiece) × Member w ws × (covers n r s (row_told office w) ≡ true))

-- a second of the account in the interval, of a register that counts
pub record IsAsked (office : OfficeRules) (at : Key → Contents) (a : AccountId) (x y n : ℕ) (r : Register)
    (s : ℕ) : Type 0 where
  pub meter : n < office.meters
  pub counts : office.counts n r ≡ true
  pub begun : x ≤ s
  pub within : s < y
  pub own : owner_at at n s ≡ Some a

-- the rows up to a place: one behind another, and each second up to it is told
pub record AreRowsUpTo (office : OfficeRules) (at : Key → Contents) (a : AccountId) (x y m i t : ℕ)
    (ws : List WhyPiece) : Type 0 where
  pub each : (w : WhyPiece) → Member w ws → IsRowUpTo office at a x y m i t w
  pub apart : AreApart ws
  pub all : (n : ℕ) (r : Register) (s : ℕ) → IsUpTo n (register_place r) (s + 1) m i t →
      IsAsked office at a x y n r s → IsTold office at ws n r s

-- ---- what is gathered
-- in one stretch a register adds its rows to those up to it
abbrev pub AddsRows : Pass → ℕ → Register → Reasons → Reasons → Type 0
AddsRows q m r old new = (x : ℕ) → q.begins ≡ x ∷ [] →
    AreRowsUpTo (office_of q.file) (contents_at q.content.records) q.account x q.end m (register_place r) 0 old.rows.items →
    AreRowsUpTo (office_of q.file) (contents_at q.content.records) q.account x q.end m (register_place r + 1) 0 new.rows.items
