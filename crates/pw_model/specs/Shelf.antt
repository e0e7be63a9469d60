-- What a shelf holds, and when that is true. That each record stands once among those held (`EachOnce`) is asked apart.
-- (Definitions of this project.)
use Rattle.std.specs.Prelude.{◌≡◌, ℕ, ◌*◌, ◌≤◌, Option, None, List, [], length}
use Rattle.pw_obis.specs.declared.energy.TheConstants.{LARGEST_WATT_HOURS}
use Rattle.pw_obis.specs.declared.reference.Register.{Register}
use Rattle.pw_tariff.specs.declared.ids.AccountId.{AccountId}
use Rattle.pw_model.specs.declared.records.TotalKey.{TotalKey}
use Rattle.pw_model.specs.declared.records.TotalKey.TheVariants.{Energy, TopUps}
use Rattle.pw_model.specs.declared.records.Entry.{Entry}
use Rattle.pw_model.specs.Counting.{SameMembers, contents_at, point, start}
use Rattle.pw_tariff.specs.Office.{OfficeRules}
use Rattle.pw_model.specs.Office.{AllOfOffice, IsOffice, most_records}
use Rattle.pw_model.specs.Energy.{energy_in_period}
use Rattle.pw_model.specs.Payments.{topped_up}

pub record ShelfContent : Type 0 where
  -- the records held, in some order
  pub records : List Entry
  -- what is kept as the value of the counting reading of a meter and register at a second
  pub point : ℕ → Register → ℕ → Option ℕ
  -- what is kept as the owner that the counting assignment of a meter gives from a second on
  pub start : ℕ → ℕ → Option (Option AccountId)
  -- what is kept as the total at a key; absent is 0
  pub total : TotalKey → ℕ

-- the total of the records, for every key
abbrev pub total_among : OfficeRules → List Entry → TotalKey → ℕ
total_among office s (Energy o p b d) = energy_in_period office s o p.0 b.0 d
total_among office s (TopUps a) = topped_up s a.0

-- points and starts are those of the records held, and the total at each key, whatever account, period or band it names,
-- is the energy or the top-ups that the records give for it
pub record IsTrueContent (office : OfficeRules) (c : ShelfContent) : Type 0 where
  pub points : c.point ≡ point (contents_at c.records)
  pub starts : c.start ≡ start (contents_at c.records)
  pub totals : (k : TotalKey) → c.total k ≡ total_among office c.records k

-- nothing held
abbrev pub no_content : ShelfContent
no_content = record { records = []; point = λ m r t. None; start = λ m t. None; total = λ k. 0 }

-- ---- laws
-- nothing held is true in every office
abbrev pub EmptyIsTrue : Type 0
EmptyIsTrue = (office : OfficeRules) → IsTrueContent office no_content

-- true contents of one set of records are alike
pub record AreAlike (c d : ShelfContent) : Type 0 where
  pub points : c.point ≡ d.point
  pub starts : c.start ≡ d.start
  pub totals : (k : TotalKey) → c.total k ≡ d.total k

abbrev pub TrueContentsAreAlike : Type 0
TrueContentsAreAlike = (office : OfficeRules) (c d : ShelfContent) → IsTrueContent office c → IsTrueContent office d → SameMembers c.records d.records → AreAlike c d

-- a true total of at most 10,000,000 records is at most as many times the largest reading
abbrev pub TrueTotalsAreBounded : Type 0
TrueTotalsAreBounded = (office : OfficeRules) (c : ShelfContent) → IsOffice office → AllOfOffice office c.records → length c.records ≤ most_records → IsTrueContent office c →
    (k : TotalKey) → c.total k ≤ most_records * LARGEST_WATT_HOURS
