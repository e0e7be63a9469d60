-- Records by the names of another office file, and which of them can be carried into it.
-- (Definitions of this project.)
use Rattle.std.specs.Prelude.{ℕ, Option, Some, None, List, map}
use Rattle.pw_tariff.specs.declared.ids.AccountId.{AccountId}
use Rattle.pw_tariff.specs.declared.ids.MeterId.{MeterId}
use Rattle.pw_tariff.specs.Office.{OfficeFile, office_of}
use Rattle.pw_model.specs.declared.records.Key.{Key}
use Rattle.pw_model.specs.declared.records.Key.TheVariants as key
use Rattle.pw_model.specs.declared.records.Named.{Named}
use Rattle.pw_model.specs.declared.records.Named.TheVariants as named
use Rattle.pw_model.specs.declared.records.Content.{Content}
use Rattle.pw_model.specs.declared.records.Content.TheVariants as content
use Rattle.pw_model.specs.declared.records.Contents.{Contents}
use Rattle.pw_model.specs.declared.records.Contents.TheVariants.{Nothing, One, Several}
use Rattle.pw_model.specs.declared.records.Entry.{Entry}
use Rattle.pw_model.specs.Counting.{Member}
use Rattle.pw_model.specs.Office.{IsOfOffice}
use Rattle.pw_moving.specs.Names.{names_in, place_in}
use Rattle.pw_moving.specs.declared.change.Listed.TheVariants.{Accounts, Meters, Bands}

-- ---- two offices
-- the office file of a store, and another one
pub record Offices : Type 0 where
  pub old : OfficeFile
  pub new : OfficeFile

-- ---- where the accounts, meters and bands of one office stand in another
pub record Places : Type 0 where
  pub account : ℕ → ℕ
  pub meter : ℕ → ℕ
  pub band : ℕ → ℕ

-- by equal names: each where its name stands there
abbrev pub by_names : Offices → Places
by_names offices = record {
  account = place_in (names_in Accounts offices.old) (names_in Accounts offices.new);
  meter = place_in (names_in Meters offices.old) (names_in Meters offices.new);
  band = place_in (names_in Bands offices.old) (names_in Bands offices.new);
}

-- ---- a record by these places: whatever names an account or a meter names it by its other place, what a withdrawal names
-- too; all else stays
abbrev pub account_as : Places → AccountId → AccountId
account_as to a = record { 0 = to.account a.0 }

abbrev pub meter_as : Places → MeterId → MeterId
meter_as to m = record { 0 = to.meter m.0 }

-- nobody stays nobody
abbrev pub owner_as : Places → Option AccountId → Option AccountId
owner_as to None = None
owner_as to (Some a) = Some (account_as to a)

abbrev pub named_as : Places → Named → Named
named_as to (named.Reading m r t w) = named.Reading (meter_as to m) r t w
named_as to (named.Assignment m t o) = named.Assignment (meter_as to m) t (owner_as to o)
named_as to (named.TopUp r a c t) = named.TopUp r (account_as to a) c t

abbrev pub key_as : Places → Key → Key
key_as to (key.Reading m r t) = key.Reading (meter_as to m) r t
key_as to (key.Assignment m t) = key.Assignment (meter_as to m) t
key_as to (key.TopUp r) = key.TopUp r
key_as to (key.Withdrawal n) = key.Withdrawal (named_as to n)

abbrev pub content_as : Places → Content → Content
content_as to (content.Reading w) = content.Reading w
content_as to (content.Assignment o) = content.Assignment (owner_as to o)
content_as to (content.TopUp a c t) = content.TopUp (account_as to a) c t
content_as to content.Withdrawal = content.Withdrawal

abbrev pub entry_as : Places → Entry → Entry
entry_as to e = record { key = key_as to e.key; content = content_as to e.content }

-- what is told at a key, likewise
abbrev pub contents_as : Places → Contents → Contents
contents_as to Nothing = Nothing
contents_as to (One c) = One (content_as to c)
contents_as to Several = Several

-- ---- carrying
-- the record that a record of the old office is in the new one
abbrev pub carried : Offices → Entry → Entry
carried offices = entry_as (by_names offices)

-- the new office can hold it: all that it names has its name there, and a register counts there
abbrev pub CanBeCarried : Offices → Entry → Type 0
CanBeCarried offices e = IsOfOffice (office_of offices.new) (carried offices e)

abbrev pub AllCanBeCarried : Offices → List Entry → Type 0
AllCanBeCarried offices s = (e : Entry) → Member e s → CanBeCarried offices e

-- the records of a set, each carried
abbrev pub all_carried : Offices → List Entry → List Entry
all_carried offices = map (carried offices)
