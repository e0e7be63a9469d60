-- What is gathered in a pass over meters and their registers, step by step. It serves `src/gathering.rt`,
-- `src/payments.rt`, `src/points.rt` and `src/shelf_calls.rt`.
-- (Definitions of this project.)
use Rattle.std.specs.Prelude.{◌≡◌, ◌⊎◌, ℕ, zero, suc, ◌+◌, ◌<◌, ◌≤◌, true, false, cond, IsNone, List, Result, length}
use Rattle.std.specs.List.{sum_by}
use Rattle.pw_obis.specs.Registers.{registers}
use Rattle.pw_obis.specs.declared.reference.Register.{Register}
use Rattle.pw_tariff.specs.declared.ids.AccountId.{AccountId}
use Rattle.pw_tariff.specs.Office.{IsSound, OfficeFile, counts_at, office_of, register_place}
use Rattle.pw_model.specs.Counting.{contents_at}
use Rattle.pw_model.specs.Shelf.{ShelfContent}
use Rattle.pw_shelf.specs.declared.fault.ShelfFault.{ShelfFault}
use Rattle.pw_shelf.specs.declared.shelf.Shelf.{Ghosts}
use Rattle.pw_shelf.specs.Rows.{rows_given}
use Rattle.pw_book.specs.Cost.{HasPointsAt, HasStarts}
use Rattle.pw_book.specs.Posting.{IsSoundContent}
use Rattle.pw_bills.specs.declared.gathering.Place.{Place}
use Rattle.pw_bills.specs.declared.stretches.Stretches.{Stretches}
use Rattle.pw_bills.specs.ReadUpTo.{IsAccountsIn}
use Rattle.pw_bills.specs.Reads.{IsBetween, IsOwned, all_meters}
use Rattle.pw_bills.specs.Stretches.{AreStretches, first_of}
use Rattle.pw_bills.specs.inner.Naming.{NamesStretches, OwnerStart}

-- ---- what a pass goes over
-- a pass over the meters of an account in stretches of time that have an end, by the content of a store
pub record Pass : Type 0 where
  pub file : OfficeFile
  pub content : ShelfContent
  pub account : AccountId
  pub begins : List ℕ
  pub end : ℕ

abbrev pub pass_of : OfficeFile → ShelfContent → AccountId → List ℕ → ℕ → Pass
pass_of file c a begins end = record { file = file; content = c; account = a; begins = begins; end = end }

-- the pass over stretches, and the one that comes to a place
abbrev pub pass_over : OfficeFile → ShelfContent → Stretches → Pass
pass_over file c stretches = pass_of file c stretches.account stretches.begins.now (stretches.last + 1)

abbrev pub pass_to : Place → ShelfContent → Pass
pass_to place c = pass_over place.basis.now.office.now c place.stretches.now

abbrev pub first_second : Pass → ℕ
first_second q = first_of q.begins q.end

abbrev pub IsSoundPass : Pass → Type 0
IsSoundPass q = IsSoundContent (office_of q.file) q.content

-- the meter is the account's
abbrev pub IsOfAccount : Pass → ℕ → Type 0
IsOfAccount q m = IsAccountsIn (contents_at q.content.records) q.account (first_second q) q.end m

-- the owners of the meter, under the numbers of stretches
abbrev pub AreNamed : Pass → ℕ → List OwnerStart → Type 0
AreNamed q m owners = NamesStretches (contents_at q.content.records) m q.account q.begins q.end owners

-- outside an upload, on stretches of time, of a meter of the office
pub record CanAsk {S : Type 0} (shelf : Ghosts S) (file : OfficeFile) (begins : List ℕ) (end m : ℕ) (now : S) : Type 0 where
  pub idle : IsNone (shelf.state now).begun
  pub stretches : AreStretches begins end
  pub meter : m < length file.meters

-- so it is of a meter, in stretches, and of the meter of a place
abbrev pub CanAskOf : {S : Type 0} → Ghosts S → OfficeFile → Stretches → ℕ → S → Type 0
CanAskOf shelf file stretches m now = CanAsk shelf file stretches.begins.now (stretches.last + 1) m now

abbrev pub CanAskAt : {S : Type 0} → Ghosts S → Place → S → Type 0
CanAskAt shelf place now = CanAskOf shelf place.basis.now.office.now place.stretches.now place.meter.0 now

-- ---- what is gathered
-- one step after another, by their numbers from 0 on, as many as a number tells
module _ {T : Type 0} (step : ℕ → T → T → Type 0) where
  unfoldable pub Steps : ℕ → T → T → Type 0
  Steps zero old new = new ≡ old
  Steps (suc n) old new = (mid : T) × Steps n old mid × step n mid new

module _ {T : Type 0} (adds : Pass → ℕ → Register → T → T → Type 0) (q : Pass) where
  -- the register at a place of a meter adds something where it counts, and nothing where it doesn't
  abbrev pub RegisterStep : ℕ → ℕ → T → T → Type 0
  RegisterStep m i old new =
      (r : Register) × (register_place r ≡ i)
      × (((counts_at q.file m r ≡ true) × adds q m r old new) ⊎ ((counts_at q.file m r ≡ false) × (new ≡ old)))

  -- a meter adds what its six registers do where it is the account's, and nothing where it never is
  abbrev pub MeterStep : ℕ → T → T → Type 0
  MeterStep m old new =
      (IsOfAccount q m × Steps (RegisterStep m) 6 old new) ⊎ (¬ (IsOfAccount q m) × (new ≡ old))

  -- under owners that name the stretches a register adds something, of a sound content
  abbrev pub AddsHere : ℕ → List OwnerStart → Register → T → T → Type 0
  AddsHere m owners r old new = IsSoundPass q → AreNamed q m owners → adds q m r old new

  abbrev pub RegisterAdds : ℕ → List OwnerStart → ℕ → T → T → Type 0
  RegisterAdds m owners i old new = IsSoundPass q → AreNamed q m owners → RegisterStep m i old new

  abbrev pub RegistersAdd : ℕ → List OwnerStart → T → T → Type 0
  RegistersAdd m owners old new = IsSoundPass q → AreNamed q m owners → Steps (RegisterStep m) 6 old new

  abbrev pub MeterAdds : ℕ → T → T → Type 0
  MeterAdds m old new = IsSoundPass q → MeterStep m old new

  -- what all meters of an office add, of a sound content
  pub record IsGathered (old new : T) : Type 0 where
    pub office : IsSound q.file
    pub content : IsSoundPass q
    pub steps : Steps MeterStep (length q.file.meters) old new

-- what has grown by so many registers at most
abbrev pub FitsMore : {T : Type 0} → (ℕ → T → Type 0) → ℕ → T → Type 0
FitsMore fits most x = (n : ℕ) × (n ≤ most) × fits n x

-- ---- how much is read
-- by one call: it, and the rows that its answer gives
abbrev pub TakesRows : {S T : Type 0} → Ghosts S → (T → ℕ) → Result T ShelfFault → S → S → Type 0
TakesRows shelf rows answer old new = (shelf.state new).tally ≡ (shelf.state old).tally + 1 + rows_given rows answer

-- for the points of a register with a neighbour at both sides: three calls, and the points
abbrev pub PointsAreRead : Pass → ℕ → Register → ℕ → Type 0
PointsAreRead q m r most =
    (points : ℕ) × HasPointsAt (IsBetween (first_second q) q.end) (q.content.point m r) points × (5 + points ≤ most)

-- for a register that counts
abbrev pub counted_reads : OfficeFile → ℕ → (Register → ℕ) → Register → ℕ
counted_reads file m each r = cond (counts_at file m r) (each r) 0

-- for those of a meter
abbrev pub meter_reads : OfficeFile → ℕ → (Register → ℕ) → ℕ
meter_reads file m each = sum_by (counted_reads file m each) registers

-- so many calls and rows are enough for a meter: one call, and its counting starts; and where it is the account's, those
-- of each register that counts
pub record IsEnoughToGather (reads : Pass → ℕ → Register → ℕ → Type 0) (q : Pass) (m most : ℕ) : Type 0 where
  pub starts : ℕ
  pub few : HasStarts q.content m starts
  pub asked : 1 + starts ≤ most
  pub owned : IsOwned q.content q.account.0 (first_second q) q.end m →
      (each : Register → ℕ) × ((r : Register) → reads q m r (each r)) × (1 + starts + meter_reads q.file m each ≤ most)

-- those of all meters of an office
abbrev pub office_reads : OfficeFile → (ℕ → ℕ) → ℕ
office_reads file most = all_meters (office_of file) most

-- so many are, meter by meter
abbrev pub AreEnoughToGather : (Pass → ℕ → Register → ℕ → Type 0) → Pass → (ℕ → ℕ) → Type 0
AreEnoughToGather reads q most = (m : ℕ) → m < length q.file.meters → IsEnoughToGather reads q m (most m)
