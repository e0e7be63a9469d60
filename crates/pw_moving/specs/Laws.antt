-- The laws of these definitions. Each is the contract of a function of the module `laws`.
use Rattle.std.specs.Prelude.{◌≡◌, ℕ, ◌<◌, ◌≤◌, length, Option, Some, None, List, ◌↔◌}
use Rattle.pw_tariff.specs.declared.ids.AccountId.{AccountId}
use Rattle.pw_tariff.specs.declared.ids.Direction.{Direction}
use Rattle.pw_tariff.specs.Office.{OfficeFile, OfficeRules, IsSound, office_of}
use Rattle.pw_model.specs.declared.records.Entry.{Entry}
use Rattle.pw_model.specs.Counting.{Member, is_withdrawn, Counts, contents_at}
use Rattle.pw_model.specs.Office.{HasPeriods, AllOfOffice}
use Rattle.pw_model.specs.Energy.{energy, energy_in_period, cost}
use Rattle.pw_model.specs.Payments.{topped_up, balance}
use Rattle.pw_model.specs.Laws.{HaveSameFigures}
use Rattle.pw_model.specs.Shelf.{ShelfContent, IsTrueContent}
use Rattle.pw_moving.specs.declared.change.Respelling.{Respelling}
use Rattle.pw_moving.specs.Renaming.{Offices, by_names, owner_as, account_as, contents_as, carried, AllCanBeCarried, all_carried}
use Rattle.pw_moving.specs.Adopting.{AreUpTo, Adopts}
use Rattle.pw_moving.specs.Agreeing.{AgreeOn}

-- ---- offices that agree
-- offices that agree on what a set's records ask for give it the same energies, costs and balances
abbrev pub AgreeingOfficesAreAlike : Type 0
AgreeingOfficesAreAlike = (a b : OfficeRules) (s : List Entry) → HasPeriods a → AllOfOffice a s → AgreeOn a b s → HaveSameFigures a b s

-- its records are of the other office, and what is kept beside them is true there
pub record IsKept (office : OfficeRules) (c : ShelfContent) : Type 0 where
  pub of_office : AllOfOffice office c.records
  pub truth : IsTrueContent office c

-- so a true content stays true, not one row of it changed
abbrev pub AgreeingOfficesKeepTheTruth : Type 0
AgreeingOfficesKeepTheTruth = (a b : OfficeRules) (c : ShelfContent) → HasPeriods a → AllOfOffice a c.records → AgreeOn a b c.records → IsTrueContent a c → IsKept b c

-- ---- a file that adopts another
-- where a new file adopts the records of the old one, the offices agree on what they ask for
abbrev pub AdoptedOfficesAgree : Type 0
AdoptedOfficesAgree = (words : List Respelling) (last : Option ℕ) (o : Offices) (s : List Entry) → IsSound o.old → IsSound o.new → AreUpTo last s → Adopts words last o →
    AgreeOn (office_of o.old) (office_of o.new) s

-- ---- a renaming by equal names
-- an account or a meter that has a place in the new office comes back to its own from there
pub record ComesBack (o : Offices) : Type 0 where
  pub accounts : (a : ℕ) → a < length o.old.accounts → (by_names o).account a < length o.new.accounts →
      (by_names (record { old = o.new; new = o.old })).account ((by_names o).account a) ≡ a
  pub meters : (m : ℕ) → m < length o.old.meters → (by_names o).meter m < length o.new.meters →
      (by_names (record { old = o.new; new = o.old })).meter ((by_names o).meter m) ≡ m

abbrev pub NamesComeBack : Type 0
NamesComeBack = (o : Offices) → IsSound o.old → ComesBack o

-- of a record that is carried: it is withdrawn, and it counts, exactly where it was and did, and what is told at its key is
-- what was told there
pub record StandsAsBefore (o : Offices) (s : List Entry) (e : Entry) : Type 0 where
  pub withdrawn : is_withdrawn (all_carried o s) (carried o e) ≡ is_withdrawn s e
  pub told : contents_at (all_carried o s) (carried o e).key ≡ contents_as (by_names o) (contents_at s e.key)
  pub counts : Counts s e ↔ Counts (all_carried o s) (carried o e)

-- so it is of each record of a set, withdrawals among them
abbrev pub CarriedRecordsStand : Type 0
CarriedRecordsStand = (o : Offices) (s : List Entry) → IsSound o.old → AllOfOffice (office_of o.old) s → AllCanBeCarried o s → (e : Entry) → Member e s → StandsAsBefore o s e

-- two offices have the same bands, weeks, periods and prices; their accounts, meters and registers may be any
pub record HaveSameTariff (a b : OfficeRules) : Type 0 where
  pub bands : a.bands ≡ b.bands
  pub periods : a.periods ≡ b.periods
  pub end : a.end ≡ b.end
  pub band : a.band ≡ b.band
  pub period : a.period ≡ b.period
  pub price : a.price ≡ b.price

-- so have two files that are alike in all lines but those of accounts and meters
abbrev pub SameLinesSameTariff : Type 0
SameLinesSameTariff = (old new : OfficeFile) → old.bands ≡ new.bands → old.week ≡ new.week → old.later ≡ new.later → HaveSameTariff (office_of old) (office_of new)

-- an owner of the old office who has a place in the new one: nobody, or an account
abbrev pub IsOwnerOfBoth : Offices → Option AccountId → Type 0
IsOwnerOfBoth o None = Unit {0}
IsOwnerOfBoth o (Some a) = (a.0 < length o.old.accounts) × ((by_names o).account a.0 < length o.new.accounts)

-- the figures of the old office over a set, and those of the new one over the records carried
pub record HaveCarriedFigures (o : Offices) (s : List Entry) : Type 0 where
  pub energies : (q : Option AccountId) (n : ℕ) (d : Direction) → IsOwnerOfBoth o q →
      energy (office_of o.new) (all_carried o s) (owner_as (by_names o) q) n d ≡ energy (office_of o.old) s q n d
  pub in_periods : (q : Option AccountId) (p n : ℕ) (d : Direction) → IsOwnerOfBoth o q →
      energy_in_period (office_of o.new) (all_carried o s) (owner_as (by_names o) q) p n d ≡ energy_in_period (office_of o.old) s q p n d
  pub costs : (q : Option AccountId) (d : Direction) → IsOwnerOfBoth o q →
      cost (office_of o.new) (contents_at (all_carried o s)) (owner_as (by_names o) q) d ≡ cost (office_of o.old) (contents_at s) q d
  pub topped : (a : AccountId) → IsOwnerOfBoth o (Some a) → topped_up (all_carried o s) (account_as (by_names o) a).0 ≡ topped_up s a.0
  pub balances : (a : AccountId) → IsOwnerOfBoth o (Some a) →
      balance (office_of o.new) (all_carried o s) (account_as (by_names o) a).0 ≡ balance (office_of o.old) s a.0

-- where two offices differ in accounts and meters alone, in their order or number, each account of both has the same figures
abbrev pub CarriedFiguresStay : Type 0
CarriedFiguresStay = (o : Offices) (s : List Entry) → IsSound o.old → HaveSameTariff (office_of o.old) (office_of o.new) →
    AllOfOffice (office_of o.old) s → AllCanBeCarried o s → HaveCarriedFigures o s

-- an account has no energy, no cost and no top-up
pub record HasNothing (office : OfficeRules) (s : List Entry) (a : AccountId) : Type 0 where
  pub energies : (n : ℕ) (d : Direction) → energy office s (Some a) n d ≡ 0
  pub costs : (d : Direction) → cost office (contents_at s) (Some a) d ≡ 0
  pub topped : topped_up s a.0 ≡ 0

-- where all records can be carried, an account that the new office hasn't has nothing in the old one either
abbrev pub GoneAccountsHaveNothing : Type 0
GoneAccountsHaveNothing = (o : Offices) (s : List Entry) → AllOfOffice (office_of o.old) s → AllCanBeCarried o s →
    (a : AccountId) → length o.new.accounts ≤ (by_names o).account a.0 → HasNothing (office_of o.old) s a
