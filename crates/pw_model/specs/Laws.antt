-- The laws of these definitions. Each is the contract of a function of the module `laws`.
use Rattle.std.specs.Prelude.{◌≡◌, ℕ, ◌*◌, ◌≤◌, length, Option, Some, List, ◌∷◌, ◌++◌, ◌↔◌, pos, ◌+ℤ◌, ◌-ℤ◌}
use Rattle.std.specs.List.{sum_by}
use Rattle.pw_obis.specs.declared.reference.Register.{Register}
use Rattle.pw_tariff.specs.declared.ids.AccountId.{AccountId}
use Rattle.pw_tariff.specs.declared.ids.BandId.{BandId}
use Rattle.pw_tariff.specs.declared.ids.PeriodId.{PeriodId}
use Rattle.pw_tariff.specs.declared.ids.Direction.{Direction}
use Rattle.pw_tariff.specs.declared.ids.Direction.TheVariants.{Import, Export}
use Rattle.pw_model.specs.declared.records.Contents.TheVariants.{One}
use Rattle.pw_model.specs.declared.records.Entry.{Entry}
use Rattle.pw_model.specs.declared.records.TotalKey.TheVariants.{Energy, TopUps}
use Rattle.pw_model.specs.declared.records.Fall.{Fall}
use Rattle.pw_model.specs.declared.records.Dispute.{Dispute}
use Rattle.pw_model.specs.declared.records.ReadingRow.{ReadingRow}
use Rattle.pw_model.specs.Counting.{Member, SameMembers, EachOnce, IsNoWithdrawal, Counts, contents_at}
use Rattle.pw_tariff.specs.Office.{OfficeRules, OfficeFile, PeriodText, IsSound, week_of_period, price_in, price_at, office_of}
use Rattle.pw_model.specs.Office.{HasBands, HasPeriods, HasOwner, AllOfOffice}
use Rattle.pw_model.specs.Energy.{energy, energy_in_period, cost, over_owners, over_periods, over_bands, all_rises}
use Rattle.pw_model.specs.Payments.{topped_up, balance, cents_in, nano_in_cent, IsTopUpFor}
use Rattle.pw_model.specs.Kinds.{IsAssignment, IsTopUp, IsWithdrawal, ListsHeld}
use Rattle.pw_model.specs.Lists.{AreFalls, AreDisputes, AreReadings, record_count}
use Rattle.pw_model.specs.Shelf.{total_among}

-- of what is no withdrawal, One is told exactly for the record that counts
abbrev pub OneIsCounting : Type 0
OneIsCounting = (s : List Entry) (e : Entry) → IsNoWithdrawal e.content → (contents_at s e.key ≡ One e.content) ↔ Counts s e

-- two lists of one set have the same contents at every key, and so the same answers
pub record HaveSameAnswers (office : OfficeRules) (s t : List Entry) : Type 0 where
  pub contents : contents_at s ≡ contents_at t
  pub count : record_count s ≡ record_count t
  pub energies : (o : Option AccountId) (b : ℕ) (d : Direction) → energy office s o b d ≡ energy office t o b d
  pub in_periods : (o : Option AccountId) (p b : ℕ) (d : Direction) → energy_in_period office s o p b d ≡ energy_in_period office t o p b d
  pub topped : (a : ℕ) → topped_up s a ≡ topped_up t a
  pub balances : (a : ℕ) → balance office s a ≡ balance office t a
  pub falls : (fs : List Fall) → AreFalls s fs ↔ AreFalls t fs
  pub disputes : (ds : List Dispute) → AreDisputes s ds ↔ AreDisputes t ds
  pub readings : (m : ℕ) (r : Register) (rows : List ReadingRow) → AreReadings s m r rows ↔ AreReadings t m r rows
  pub assignments : (held : List Entry) → ListsHeld IsAssignment s held ↔ ListsHeld IsAssignment t held
  pub topups : (held : List Entry) → ListsHeld IsTopUp s held ↔ ListsHeld IsTopUp t held
  pub withdrawals : (held : List Entry) → ListsHeld IsWithdrawal s held ↔ ListsHeld IsWithdrawal t held

abbrev pub OrderCountsNothing : Type 0
OrderCountsNothing = (office : OfficeRules) (s t : List Entry) → SameMembers s t → HaveSameAnswers office s t

-- a set has at most one list of falls, one of disputes, and one of the readings of a register
pub record HasAtMostOneList (s : List Entry) : Type 0 where
  pub falls : (fs gs : List Fall) → AreFalls s fs → AreFalls s gs → fs ≡ gs
  pub disputes : (ds es : List Dispute) → AreDisputes s ds → AreDisputes s es → ds ≡ es
  pub readings : (m : ℕ) (r : Register) (a b : List ReadingRow) → AreReadings s m r a → AreReadings s m r b → a ≡ b

abbrev pub ListsAreAtMostOne : Type 0
ListsAreAtMostOne = (s : List Entry) → HasAtMostOneList s

-- a set has a list of falls, one of disputes, and one of the readings of each register
pub record HasLists (s : List Entry) : Type 0 where
  pub falls : (fs : List Fall) × AreFalls s fs
  pub disputes : (ds : List Dispute) × AreDisputes s ds
  pub readings : (m : ℕ) (r : Register) → (rows : List ReadingRow) × AreReadings s m r rows

abbrev pub ListsExist : Type 0
ListsExist = (s : List Entry) → HasLists s

-- where each record stands once, those held are as many as the list is long
abbrev pub CountIsLength : Type 0
CountIsLength = (s : List Entry) → EachOnce s → record_count s ≡ length s

-- what is no account, period or band of the office has no total
pub record ForeignHaveNone (office : OfficeRules) (s : List Entry) : Type 0 where
  -- where all records are of the office, an owner that is no account of it has no energy
  pub owners : AllOfOffice office s → (o : Option AccountId) (p : PeriodId) (b : BandId) (d : Direction) → (HasOwner office o → ⊥) → total_among office s (Energy o p b d) ≡ 0
  -- where each second's period is one of the office's, another period has no energy
  pub periods : HasPeriods office → (o : Option AccountId) (p : PeriodId) (b : BandId) (d : Direction) → office.periods ≤ p.0 → total_among office s (Energy o p b d) ≡ 0
  -- where each second's band is one of the office's, another band has no energy
  pub bands : HasBands office → (o : Option AccountId) (p : PeriodId) (b : BandId) (d : Direction) → office.bands ≤ b.0 → total_among office s (Energy o p b d) ≡ 0
  -- where all records are of the office, what is no account of it has no top-ups
  pub top_ups : AllOfOffice office s → (a : AccountId) → office.accounts ≤ a.0 → total_among office s (TopUps a) ≡ 0

abbrev pub ForeignTotalsAreNone : Type 0
ForeignTotalsAreNone = (office : OfficeRules) (s : List Entry) → ForeignHaveNone office s

-- a list of the counting top-ups of an account, each once, in any order
pub record AreTopUps (s : List Entry) (a : ℕ) (es : List Entry) : Type 0 where
  pub once : EachOnce es
  pub members : (e : Entry) → Member e es ↔ (Counts s e × IsTopUpFor a e.content)

-- there is one, and for each of them what is topped up is the sum of its cents
pub record IsSumOfTopUps (s : List Entry) (a : ℕ) : Type 0 where
  pub exists : (es : List Entry) × AreTopUps s a es
  pub sum : (es : List Entry) → AreTopUps s a es → topped_up s a ≡ sum_by (λ e. cents_in e.content) es

abbrev pub TopUpsAddUp : Type 0
TopUpsAddUp = (s : List Entry) (a : ℕ) → IsSumOfTopUps s a

-- the energies of a direction, of all owners with nobody and all bands, are all that its neighbours rise by
abbrev pub NothingIsLost : Type 0
NothingIsLost = (office : OfficeRules) (s : List Entry) (d : Direction) → HasBands office → AllOfOffice office s →
    over_owners office (λ o. over_bands office (λ b. energy office s o b d)) ≡ all_rises office (contents_at s) d

-- an energy is the sum of those of the periods
abbrev pub EnergyIsOfPeriods : Type 0
EnergyIsOfPeriods = (office : OfficeRules) (s : List Entry) (o : Option AccountId) (b : ℕ) (d : Direction) → HasPeriods office →
    energy office s o b d ≡ over_periods office (λ p. energy_in_period office s o p b d)

-- what the energies of an owner in a direction cost: of all periods and all bands, each energy at the price of its own
abbrev pub cost_by_period : OfficeRules → List Entry → Option AccountId → Direction → ℕ
cost_by_period office s o d = over_periods office (λ p. over_bands office (λ b. office.price p b d * energy_in_period office s o p b d))

-- a balance is what was topped up, less what import costs by period and band, plus what export earns
abbrev pub BalanceIsOfPeriods : Type 0
BalanceIsOfPeriods = (office : OfficeRules) (s : List Entry) (a : ℕ) →
    let o : Option AccountId = Some (record { 0 = a }) in
    balance office s a ≡ (pos (nano_in_cent * topped_up s a) -ℤ pos (cost_by_period office s o Import)) +ℤ pos (cost_by_period office s o Export)

-- the office b is a with some of its periods split: each second of a period of b is one of the period of a in which that lies,
-- with its prices; all else is the same, the bands of the seconds too
pub record SplitsPeriods (a b : OfficeRules) : Type 0 where
  pub accounts : a.accounts ≡ b.accounts
  pub meters : a.meters ≡ b.meters
  pub bands : a.bands ≡ b.bands
  pub end : a.end ≡ b.end
  pub counts : a.counts ≡ b.counts
  pub band : a.band ≡ b.band
  -- the period of a in which a period of b lies
  pub whole : ℕ → ℕ
  pub within : (t : ℕ) → a.period t ≡ whole (b.period t)
  pub price : (p n : ℕ) (d : Direction) → b.price p n d ≡ a.price (whole p) n d

-- the same energies, costs and balances in two offices
pub record HaveSameFigures (a b : OfficeRules) (s : List Entry) : Type 0 where
  pub energies : (o : Option AccountId) (n : ℕ) (d : Direction) → energy a s o n d ≡ energy b s o n d
  pub costs : (o : Option AccountId) (d : Direction) → cost a (contents_at s) o d ≡ cost b (contents_at s) o d
  pub balances : (x : ℕ) → balance a s x ≡ balance b s x

-- a period that changes neither the bands of its seconds nor their prices changes no figure
abbrev pub SplitPeriodsChangeNothing : Type 0
SplitPeriodsChangeNothing = (a b : OfficeRules) (s : List Entry) → HasPeriods a → HasPeriods b → SplitsPeriods a b → HaveSameFigures a b s

-- an office file with these periods behind its first
abbrev pub with_later : OfficeFile → List PeriodText → OfficeFile
with_later file later = record { accounts = file.accounts; bands = file.bands; meters = file.meters; week = file.week; later = later }

-- a period with the week and the prices of the last one before it
pub record RepeatsPeriod (file : OfficeFile) (before : List PeriodText) (p : PeriodText) : Type 0 where
  pub week : p.week ≡ week_of_period (with_later file before) (length before)
  pub price : (n : ℕ) (d : Direction) → price_in (Some p) n d ≡ price_at (with_later file before) (length before) n d

-- where an office file writes such a period, it has the figures of the file without it
abbrev pub RepeatedPeriodChangesNothing : Type 0
RepeatedPeriodChangesNothing = (file : OfficeFile) (before behind : List PeriodText) (p : PeriodText) (s : List Entry) →
    IsSound (with_later file (before ++ p ∷ behind)) → RepeatsPeriod file before p →
    HaveSameFigures (office_of (with_later file (before ++ behind))) (office_of (with_later file (before ++ p ∷ behind))) s
