-- Why a bill is what it is: a row for each piece of a pair of readings that gave energy.
-- (Definitions of this project.)
use Rattle.std.specs.Prelude.{◌≡◌, ◌==◌, ◌&&◌, ◌⊎◌, ℕ, ◌+◌, ◌-◌, ◌*◌, ◌<◌, ◌≤◌, Bool, true, cond, Some, List, [], ◌∷◌}
use Rattle.std.specs.Cmp.Lexicographic.{slice_cmp}
use Rattle.std.specs.Ordering.{nat_cmp}
use Rattle.std.specs.declared.cmp.Ordering.{Ordering}
use Rattle.pw_obis.specs.declared.reference.Register.{Register}
use Rattle.pw_tariff.specs.declared.ids.Direction.{Direction}
use Rattle.pw_tariff.specs.Office.{OfficeRules, register_place, same_register}
use Rattle.pw_flow.specs.Flow.{AreNeighbours, flow, level}
use Rattle.pw_model.specs.declared.records.Key.{Key}
use Rattle.pw_model.specs.declared.records.Contents.{Contents}
use Rattle.pw_model.specs.declared.records.Entry.{Entry}
use Rattle.pw_model.specs.Same.{direction_of, same_direction}
use Rattle.pw_model.specs.Counting.{Member, contents_at, point}
use Rattle.pw_model.specs.Lists.{IsInOrder}
use Rattle.pw_model.specs.Energy.{account, owner_at}
use Rattle.pw_model.specs.Office.{HasBands, HasPeriods}
use Rattle.pw_months.specs.Between.{lies_in}
use Rattle.pw_months.specs.Bills.{bill_of}

pub record WhyRow : Type 0 where
  pub meter : ℕ
  pub register : Register
  -- the pair of readings: value low at from, value high at to
  pub from : ℕ
  pub low : ℕ
  pub to : ℕ
  pub high : ℕ
  -- the piece of it: the seconds from begin on, up to and without until
  pub begin : ℕ
  pub until : ℕ
  pub period : ℕ
  pub band : ℕ
  -- what the piece gave, in Wh, and what that costs, in nano-euro
  pub wh : ℕ
  pub nano : ℕ

-- the second is one of the row's piece, and the register its own
abbrev pub covers : ℕ → Register → ℕ → WhyRow → Bool
covers m r t row = ((row.meter == m) && same_register row.register r) && lies_in row.begin row.until t

-- the second is this account's, and of the row's period and band
abbrev pub IsOfClass : OfficeRules → (Key → Contents) → ℕ → WhyRow → ℕ → Type 0
IsOfClass office at a row t =
    (owner_at at row.meter t ≡ Some (account a)) × (office.period t ≡ row.period) × (office.band t ≡ row.band)

-- a piece of a pair of counting neighbours that don't fall, within the interval, all of this account and of one period
-- and band: it gives the difference of the whole pair's levels at its ends, at the price of its period and band
pub record IsWhyRow (office : OfficeRules) (at : Key → Contents) (a x y : ℕ) (row : WhyRow) : Type 0 where
  pub meter : row.meter < office.meters
  pub counts : office.counts row.meter row.register ≡ true
  pub neighbours : AreNeighbours (point at row.meter row.register) row.from row.low row.to row.high
  pub rising : row.low ≤ row.high
  pub seen : row.to ≤ office.end
  pub piece : (row.from ≤ row.begin) × (row.begin < row.until) × (row.until ≤ row.to)
  pub within : (x ≤ row.begin) × (row.until ≤ y)
  pub of_class : (t : ℕ) → row.begin ≤ t → t < row.until → IsOfClass office at a row t
  -- it is as long as can be, and gives something
  pub first : (row.begin ≡ row.from) ⊎ ((row.begin ≡ x) ⊎ ¬ (IsOfClass office at a row (row.begin - 1)))
  pub last : (row.until ≡ row.to) ⊎ ((row.until ≡ y) ⊎ ¬ (IsOfClass office at a row row.until))
  pub something : 0 < row.wh
  pub given :
      row.wh ≡ level row.from row.low row.to row.high row.until - level row.from row.low row.to row.high row.begin
  pub cost : row.nano ≡ office.price row.period row.band (direction_of row.register) * row.wh

-- f of each row, added up
abbrev pub over_rows : (WhyRow → ℕ) → List WhyRow → ℕ
over_rows f [] = 0
over_rows f (row ∷ rows) = f row + over_rows f rows

-- n where a test holds of a row
abbrev pub where_row : (WhyRow → Bool) → (WhyRow → ℕ) → WhyRow → ℕ
where_row p f row = cond (p row) (f row) 0

-- by meter, register and begin
unfoldable pub row_numbers : WhyRow → List ℕ
row_numbers row = row.meter ∷ register_place row.register ∷ row.begin ∷ []

abbrev pub row_order : WhyRow → WhyRow → Ordering
row_order v w = slice_cmp nat_cmp (row_numbers v) (row_numbers w)

-- in order; each row is one; each second of a register stands in one row at most; and each second of the account in the
-- interval that carries something of a register that counts stands in one
pub record AreWhyRows (office : OfficeRules) (at : Key → Contents) (a x y : ℕ) (rows : List WhyRow) : Type 0 where
  pub in_order : IsInOrder row_order rows
  pub each : (row : WhyRow) → Member row rows → IsWhyRow office at a x y row
  pub once : (m : ℕ) (r : Register) (t : ℕ) → over_rows (where_row (covers m r t) (λ row. 1)) rows ≤ 1
  pub all : (m : ℕ) (r : Register) (t : ℕ) → m < office.meters → office.counts m r ≡ true →
      x ≤ t → t < y → owner_at at m t ≡ Some (account a) →
      (flow (point at m r) office.end t ≡ 0) ⊎ ((row : WhyRow) × Member row rows × (covers m r t row ≡ true))

-- whether the row is of a period and a band
abbrev pub is_in : ℕ → ℕ → WhyRow → Bool
is_in p b row = (row.period == p) && (row.band == b)

-- the row's Wh, where it is of a period, band and direction
abbrev pub wh_in : ℕ → ℕ → Direction → WhyRow → ℕ
wh_in p b d row = cond (same_direction (direction_of row.register) d) (cond (is_in p b row) row.wh 0) 0

-- the row's nano-euro, where it is of a direction
abbrev pub nano_in : Direction → WhyRow → ℕ
nano_in d row = cond (same_direction (direction_of row.register) d) row.nano 0

-- ---- law
-- the rows add up to the bill's every energy, and to what all energy of a direction costs
pub record RowsAreTheBill (office : OfficeRules) (s : List Entry) (a x y : ℕ) (rows : List WhyRow) : Type 0 where
  pub energy : (p b : ℕ) (d : Direction) → over_rows (wh_in p b d) rows ≡ (bill_of office s a x y).energy p b d
  pub whole_cost : HasPeriods office → HasBands office → (d : Direction) →
      over_rows (nano_in d) rows ≡ (bill_of office s a x y).whole_cost d

abbrev pub WhyAddsUp : Type 0
WhyAddsUp = (office : OfficeRules) (s : List Entry) (a x y : ℕ) (rows : List WhyRow) →
    AreWhyRows office (contents_at s) a x y rows → RowsAreTheBill office s a x y rows
