-- The laws of these definitions. Each is the contract of a function of the module `laws`.
use Rattle.std.specs.Prelude.{◌≡◌, ◌==◌, ◌&&◌, ◌*◌, ℕ, ◌<◌, ◌≤◌, Some, Option, List, pos}
use Rattle.std.specs.List.{sum_by}
use Rattle.pw_tariff.specs.declared.ids.AccountId.{AccountId}
use Rattle.pw_tariff.specs.declared.ids.Direction.{Direction}
use Rattle.pw_tariff.specs.declared.ids.Direction.TheVariants.{Import, Export}
use Rattle.pw_tariff.specs.Office.{OfficeRules}
use Rattle.pw_flow.specs.Time.{sum_over}
use Rattle.pw_model.specs.declared.records.Key.{Key}
use Rattle.pw_model.specs.declared.records.Contents.{Contents}
use Rattle.pw_model.specs.declared.records.Contents.TheVariants.{One}
use Rattle.pw_model.specs.declared.records.Entry.{Entry}
use Rattle.pw_model.specs.Counting.{SameMembers, contents_at}
use Rattle.pw_model.specs.Office.{AllOfOffice, HasBands, HasPeriods, IsOffice}
use Rattle.pw_model.specs.Energy.{Asked, account, all_rises, cost, energy_in_period, energy_where, over_bands, over_owners, over_periods}
use Rattle.pw_model.specs.Payments.{balance, topped_up}
use Rattle.pw_model.specs.Laws.{AreTopUps}
use Rattle.pw_months.specs.Between.{between, cents_between, cut_office, energy_between, topped_up_between}
use Rattle.pw_months.specs.Bills.{AreCuts, Bill, balance_at, bill_of, bill_of_all, both, last_cut, over_cuts, settled}

-- ---- bills
-- two bills, the second behind the first, are one, and the end of the first is the begin of the second
pub record AreOne (office : OfficeRules) (s : List Entry) (a from cut to : ℕ) : Type 0 where
  pub both : both (bill_of office s a from cut) (bill_of office s a cut to) ≡ bill_of office s a from to
  pub follows : (bill_of office s a from cut).end ≡ (bill_of office s a cut to).begin

abbrev pub BillsAddUp : Type 0
BillsAddUp = (office : OfficeRules) (s : List Entry) (a from cut to : ℕ) → from ≤ cut → cut ≤ to →
    AreOne office s a from cut to

-- so are those of any intervals one behind another, as the months of a year or the days of a month
abbrev pub AllBillsAddUp : Type 0
AllBillsAddUp = (office : OfficeRules) (s : List Entry) (a from : ℕ) (cuts : List ℕ) → AreCuts from cuts →
    bill_of_all office s a from cuts ≡ bill_of office s a from (last_cut from cuts)

-- the balance at the end is that at the begin, with the top-ups, less what import costs, with what export brings; and
-- what all energy of a direction costs is what that of its periods and bands does, each at its price
pub record Balances (office : OfficeRules) (bill : Bill) : Type 0 where
  pub end : bill.end ≡ settled bill.begin bill.topped_up (bill.whole_cost Import) (bill.whole_cost Export)
  pub whole_cost : (d : Direction) →
      bill.whole_cost d ≡ over_periods office (λ p. over_bands office (λ b. bill.cost p b d))
  pub cost : (p b : ℕ) (d : Direction) → bill.cost p b d ≡ office.price p b d * bill.energy p b d

abbrev pub BillBalances : Type 0
BillBalances = (office : OfficeRules) (s : List Entry) (a from to : ℕ) → from ≤ to →
    Balances office (bill_of office s a from to)

-- nothing comes before all time, and the bill of all time is the statement
pub record IsStatement (office : OfficeRules) (s : List Entry) (a : ℕ) (bill : Bill) : Type 0 where
  pub begin : bill.begin ≡ pos 0
  pub topped_up : bill.topped_up ≡ topped_up s a
  pub energy : (p b : ℕ) (d : Direction) → bill.energy p b d ≡ energy_in_period office s (Some (account a)) p b d
  pub whole_cost : (d : Direction) → bill.whole_cost d ≡ cost office (contents_at s) (Some (account a)) d
  pub end : bill.end ≡ balance office s a

abbrev pub BillOfAllTime : Type 0
BillOfAllTime = (office : OfficeRules) (s : List Entry) (a to : ℕ) →
    IsOffice office → AllOfOffice office s → office.end ≤ to → IsStatement office s a (bill_of office s a 0 to)

-- so a balance is also that at an instant, with what is topped up and flows from then on
abbrev pub BalanceLessWhatIsBehind : Type 0
BalanceLessWhatIsBehind = (office : OfficeRules) (s : List Entry) (a from to : ℕ) →
    IsOffice office → AllOfOffice office s → from ≤ to → office.end ≤ to →
    let behind : Bill = bill_of office s a from to in
    balance office s a
    ≡ settled (balance_at office s a from) behind.topped_up (behind.whole_cost Import) (behind.whole_cost Export)

-- what is topped up in an interval is the sum of the counting top-ups of the account that have an instant in it
abbrev pub TopUpsBetweenAddUp : Type 0
TopUpsBetweenAddUp = (s : List Entry) (a from to : ℕ) (es : List Entry) → AreTopUps s a es →
    topped_up_between s a from to ≡ sum_by (λ e. cents_between a from to (One e.content)) es

-- order of arrival counts nothing
abbrev pub OrderOfBillCountsNothing : Type 0
OrderOfBillCountsNothing = (office : OfficeRules) (s t : List Entry) (a from to : ℕ) → SameMembers s t →
    bill_of office s a from to ≡ bill_of office t a from to

-- ---- energies
-- whatever seconds are asked for: the energies of intervals one behind another are that of the whole
abbrev pub PiecesOfTimeAddUp : Type 0
PiecesOfTimeAddUp = (office : OfficeRules) (at : Key → Contents) (d : Direction) (asked : Asked)
    (from : ℕ) (cuts : List ℕ) → AreCuts from cuts →
    over_cuts (λ x y. energy_where office at d (between x y asked)) from cuts
    ≡ energy_where office at d (between from (last_cut from cuts) asked)

-- where each second is of one of `count` classes (a period, a month, a day), the energies of all classes are the whole
abbrev pub ClassesOfTimeAddUp : Type 0
ClassesOfTimeAddUp = (office : OfficeRules) (at : Key → Contents) (d : Direction) (asked : Asked)
    (class : ℕ → ℕ) (count : ℕ) →
    ((t : ℕ) → t < office.end → class t < count) →
    sum_over (λ i. energy_where office at d (λ o t. (class t == i) && asked o t)) 0 count
    ≡ energy_where office at d asked

-- over all owners with nobody, all periods, all bands, and intervals from 0 up to the office's end or past it: all that
-- neighbours rise by
abbrev pub NothingIsLostInTime : Type 0
NothingIsLostInTime = (office : OfficeRules) (s : List Entry) (d : Direction) (cuts : List ℕ) →
    HasPeriods office → HasBands office → AllOfOffice office s → AreCuts 0 cuts → office.end ≤ last_cut 0 cuts →
    over_owners office (λ o. over_periods office (λ p. over_bands office (λ b.
    over_cuts (energy_between office s o p b d) 0 cuts)))
    ≡ all_rises office (contents_at s) d

-- the energy of an interval is the energy in an office whose bands end with the interval: so what computes energies
-- computes it
abbrev pub EnergyOfCutOffice : Type 0
EnergyOfCutOffice = (office : OfficeRules) (s : List Entry) (o : Option AccountId) (p b : ℕ) (d : Direction)
    (from to : ℕ) → b < office.bands →
    energy_in_period (cut_office office from to) s o p b d ≡ energy_between office s o p b d from to
