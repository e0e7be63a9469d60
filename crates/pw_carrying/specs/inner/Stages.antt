-- How far records were carried. It serves `src/carrying.rt`, `src/renamed.rt` and `src/waiting.rt`.
-- (Definitions of this project.)
use Rattle.std.specs.Prelude.{◌≡◌, ℕ, ◌+◌, ◌*◌, ◌<◌, List, [], ◌∷◌, ◌++◌, Result, Ok, Err}
use Rattle.pw_tariff.specs.Office.{OfficeFile, office_of, register_place}
use Rattle.pw_model.specs.declared.records.Entry.{Entry}
use Rattle.pw_model.specs.declared.records.Key.{Key}
use Rattle.pw_model.specs.Counting.{Member, SameMembers}
use Rattle.pw_model.specs.Kinds.{IsReadingOf, IsAssignmentOf, IsTopUp, IsWithdrawal}
use Rattle.pw_model.specs.Lists.{Lists}
use Rattle.pw_model.specs.Office.{AllOfOffice}
use Rattle.pw_model.specs.Same.{entry_order}
use Rattle.pw_book.specs.declared.fault.PostFault.TheVariants as post
use Rattle.pw_book.specs.inner.Places.{key_place}
use Rattle.pw_moving.specs.Renaming.{Offices, CanBeCarried, AllCanBeCarried, all_carried}
use Rattle.pw_carrying.specs.Carrying.{HasCarriedSome, IsFirstNotCarried}
use Rattle.pw_carrying.specs.declared.fault.CarryFault.{CarryFault}
use Rattle.pw_carrying.specs.declared.fault.CarryFault.TheVariants as carry
use Rattle.pw_carrying.specs.declared.lists.HeldList.{HeldList}
use Rattle.pw_carrying.specs.declared.lists.HeldList.TheVariants as held

-- ---- one list behind another
-- the keys of a list
abbrev pub IsOfList : HeldList → Key → Type 0
IsOfList (held.Readings m r) = IsReadingOf m r
IsOfList (held.Assignments m) = IsAssignmentOf m
IsOfList held.TopUps = IsTopUp
IsOfList held.Withdrawals = IsWithdrawal

-- its place, among those of an office with so many meters
abbrev pub list_place : ℕ → HeldList → ℕ
list_place meters (held.Readings m r) = 6 * m.0 + register_place r
list_place meters (held.Assignments m) = 6 * meters + m.0
list_place meters held.TopUps = 7 * meters
list_place meters held.Withdrawals = 7 * meters + 1

-- of a meter that the office has
abbrev pub IsListOf : ℕ → HeldList → Type 0
IsListOf meters (held.Readings m r) = m.0 < meters
IsListOf meters (held.Assignments m) = m.0 < meters
IsListOf meters held.TopUps = Unit {0}
IsListOf meters held.Withdrawals = Unit {0}

-- ---- what came of a step
-- what holds with Ok, what of a record that is told, and what with each fault but Reopen
abbrev pub Leads : {X : Type 0} → Result X CarryFault → Type 0 → (Entry → Type 0) → Type 0 → Type 0
Leads (Ok x) well stop part = well
Leads (Err (carry.Record e)) well stop part = stop e × part
Leads (Err (carry.Post post.Reopen)) well stop part = Unit {0}
Leads (Err (carry.Post (post.Full held limit))) well stop part = part
Leads (Err (carry.Post post.Device)) well stop part = part
Leads (Err (carry.Post post.Memory)) well stop part = part
Leads (Err (carry.Book fault)) well stop part = part
Leads (Err carry.Memory) well stop part = part

-- ---- records in a row
-- the first of them that can't be carried
abbrev pub StopsAt : Offices → List Entry → Entry → Type 0
StopsAt o done e = (xs : List Entry) × (ys : List Entry) × (done ≡ xs ++ e ∷ ys) × AllCanBeCarried o xs × (CanBeCarried o e → ⊥)

-- those that were given are carried, but for the last, which wait
pub record HasSent (o : Offices) (given waiting before now : List Entry) : Type 0 where
  pub sent : List Entry
  pub all : given ≡ sent ++ waiting
  pub able : AllCanBeCarried o sent
  pub content : SameMembers now (before ++ all_carried o sent)

-- those that waited are carried
pub record AreSent (o : Offices) (waiting left before now : List Entry) : Type 0 where
  pub none_left : left ≡ []
  pub able : AllCanBeCarried o waiting
  pub content : SameMembers now (before ++ all_carried o waiting)

abbrev pub Sends : {X : Type 0} → OfficeFile → OfficeFile → List Entry → List Entry → List Entry → List Entry → Result X CarryFault → Type 0
Sends old new now waiting now' waiting' result = (o : Offices) → o.old ≡ old → o.new ≡ new → AllOfOffice (office_of o.old) waiting →
    Leads result (AreSent o waiting waiting' now now') (StopsAt o waiting) (now' ≡ now)

-- some more are given
abbrev pub Gives : {X : Type 0} → OfficeFile → OfficeFile → List Entry → List Entry → List Entry → List Entry → List Entry → Result X CarryFault → Type 0
Gives old new more now waiting now' waiting' result = (o : Offices) (given before : List Entry) → o.old ≡ old → o.new ≡ new →
    AllOfOffice (office_of o.old) (given ++ more) → HasSent o given waiting before now →
    Leads result (HasSent o (given ++ more) waiting' before now') (StopsAt o (given ++ more)) (HasCarriedSome o (given ++ more) before now')

-- ---- the records of a book
-- those of the lists before a place were given
pub record IsUpTo (o : Offices) (records : List Entry) (n : ℕ) (waiting before now : List Entry) : Type 0 where
  pub of_office : AllOfOffice (office_of o.old) records
  pub given : List Entry
  pub lists : Lists entry_order (λ e. Member e records × (key_place (office_of o.old).meters e.key < n)) given
  pub sent : HasSent o given waiting before now

-- then those up to another place
abbrev pub CarriesOn : {X : Type 0} → OfficeFile → OfficeFile → List Entry → ℕ → ℕ → List Entry → List Entry → List Entry → List Entry → Result X CarryFault → Type 0
CarriesOn old new held from to now waiting now' waiting' result = (o : Offices) (records before : List Entry) → o.old ≡ old → o.new ≡ new → held ≡ records →
    IsUpTo o records from waiting before now →
    Leads result (IsUpTo o records to waiting' before now') (IsFirstNotCarried o records) (HasCarriedSome o records before now')

-- a fault that isn't the first book's
abbrev pub IsNotAsked : CarryFault → Type 0
IsNotAsked (carry.Record e) = Unit {0}
IsNotAsked (carry.Post fault) = Unit {0}
IsNotAsked (carry.Book fault) = ⊥
IsNotAsked carry.Memory = Unit {0}

-- nor the other one's
abbrev pub IsOwnFault : CarryFault → Type 0
IsOwnFault (carry.Record e) = Unit {0}
IsOwnFault (carry.Post fault) = ⊥
IsOwnFault (carry.Book fault) = ⊥
IsOwnFault carry.Memory = Unit {0}
